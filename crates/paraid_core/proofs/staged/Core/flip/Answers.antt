use Rattle.std.proofs.Common.{ap, rules, refl}
use Rattle.paraid_moves.specs.MoveMetas.{meta_flipped_to}
use Rattle.paraid_txn.specs.Stores.{store_rack}
use Rattle.paraid_core.proofs.MarkLemmas.{flip_to}
use Rattle.paraid_core.proofs.staged.Core.flip.Goals as goal

pub returns : goal.returns
returns g c = record {
  meta = ap (meta_flipped_to c.args.self.now.meta) c.to-self.ensures;
  marks = record {
    store = refl;
    staged = record {
      table = refl;
      batch = refl;
      copied = refl;
      draft = refl;
    };
    ready = search rules;
  };
  serves = search rules;
  stands = λ h lo.
      let q = c.requires in
      flip_to g.R.Rack.slot_count g.R.Rack.slot g.R.Rack.told c.args.self.now q.serving.ready q.whole (g.met.R.Rack.agrees (store_rack c.args.self.now.store)) c.to-self.result c.to-self.ensures q.shifts q.filled q.clean q.serving.serves h lo;
}
