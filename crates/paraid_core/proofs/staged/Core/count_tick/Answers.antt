use Rattle.std.proofs.Common.{arith, rules, refl}
use Rattle.paraid_core.proofs.MarkLemmas.{tick_filled, tick_ready, tick_stands}
use Rattle.paraid_core.proofs.staged.Core.count_tick.Goals as goal

pub returns : goal.returns
returns g c = record {
  meta = search rules;
  marks = record {
    store = refl;
    staged = record {
      table = refl;
      batch = refl;
      copied = refl;
      draft = refl;
    };
    ready =
        let fits = c.requires.ready.in_range.counters.ticks_fit in
        let is = c.saturating_add-self.ensures in
        tick_ready _ _ _ _ _ c.args.self.now.meta _ _ c.saturating_add-self.result (grind arith) (grind arith) c.requires.ready;
  };
  serves = search rules;
  stands = λ h lo. tick_stands g.R.Rack.slot_count g.R.Rack.slot g.R.Rack.told c.args.self.now c.requires.ready _ h lo;
  filled = λ h lo. tick_filled g.R.Rack.slot_count g.R.Rack.told c.args.self.now c.requires.ready.in_range _ h lo;
}
