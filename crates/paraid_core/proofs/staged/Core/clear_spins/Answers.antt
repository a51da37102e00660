use Rattle.std.proofs.Common.{ap, rules, refl}
use Rattle.paraid_image.specs.Out.{named_out}
use Rattle.paraid_image.proofs.OutLemmas.{named_below}
use Rattle.paraid_txn.specs.Stores.{store_rack}
use Rattle.paraid_core.proofs.GoneLemmas.{cleared_ready, cleared_stands}
use Rattle.paraid_core.proofs.staged.Core.clear_spins.Goals as goal

pub returns : goal.returns
returns g c = record {
  meta = search rules;
  cleared = search rules;
  others = search rules;
  marks = record {
    store = refl;
    staged = record {
      table = refl;
      batch = refl;
      copied = refl;
      draft = refl;
    };
    ready =
        let q = c.requires in
        let m = c.args.self.now.meta in
        cleared_ready g.R.Rack.slot_count g.R.Rack.slot g.R.Rack.told c.args.self.now q.ready (g.met.R.Rack.agrees (store_rack c.args.self.now.store)) c.args.disk c.forget.new.spins q.gone c.forget.ensures.others
        (named_below m.setup.geometry m.gear m.out c.args.disk q.ready.in_range.out (ap named_out q.gone)) c.forget.ensures.eight c.forget.ensures.here;
  };
  serves = search rules;
  stands = λ h lo.
      let q = c.requires in
      cleared_stands g.R.Rack.slot_count g.R.Rack.slot g.R.Rack.told c.args.self.now q.ready (g.met.R.Rack.agrees (store_rack c.args.self.now.store)) c.args.disk _ q.gone c.forget.ensures.others h lo;
}
