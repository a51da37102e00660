use Rattle.std.proofs.Common.{rules, refl}
use Rattle.paraid_txn.specs.Stores.{store_rack}
use Rattle.paraid_core.proofs.MarkLemmas.{begin_stands}
use Rattle.paraid_core.proofs.staged.Core.begin_down.Goals as goal

pub returns : goal.returns
returns g c = record {
  meta = refl;
  marks = record {
    store = refl;
    staged = record {
      table = refl;
      batch = refl;
      copied = refl;
      draft = refl;
    };
    ready = search rules;
  };
  serves = search rules;
  stands = λ h lo.
      let q = c.requires in
      begin_stands g.R.Rack.slot_count g.R.Rack.slot g.R.Rack.told c.args.self.now q.serving.ready q.whole (g.met.R.Rack.agrees (store_rack c.args.self.now.store)) c.args.to q.steady h lo;
}
