use Rattle.std.proofs.Common.{arith, rules, refl}
use Rattle.paraid_txn.specs.Stores.{store_rack}
use Rattle.paraid_core.proofs.MarkLemmas.{begin_up_stands, spin_fits}
use Rattle.paraid_core.proofs.staged.Core.begin_up.Goals as goal

pub returns : goal.returns
returns g c = record {
  meta = refl;
  raised = search rules;
  others = search rules;
  marks = record {
    store = refl;
    staged = record {
      table = refl;
      batch = refl;
      copied = refl;
      draft = refl;
    };
    ready = search rules;
  };
  stands = λ h lo.
      let q = c.requires in
      begin_up_stands g.R.Rack.slot_count g.R.Rack.slot g.R.Rack.told c.args.self.now q.ready q.whole (g.met.R.Rack.agrees (store_rack c.args.self.now.store)) c.args.to c.count_spins.new.spins q.steady
      (λ d from below. let e = c.count_spins.ensures.raised d from below in omega arith) h lo;
}

pub count_spins-requires-clause-room : goal.count_spins-requires-clause-room
count_spins-requires-clause-room g c d from below =
    let q = c.requires in
    let high = c.args.self.now.meta.setup.geometry.gears_high c.args.to q.next.higher_gear in
    spin_fits c.args.self.now.meta d q.ready.in_range q.steady from (omega arith)
