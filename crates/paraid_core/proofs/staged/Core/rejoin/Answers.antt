use Rattle.std.proofs.Common.{rules, refl}
use Rattle.paraid_txn.specs.Stores.{store_rack}
use Rattle.paraid_core.proofs.RejoinLemmas.{joined_ready, joined_stands, joined_up}
use Rattle.paraid_core.proofs.staged.Core.rejoin.Goals as goal

pub returns : goal.returns
returns g c = record {
  meta = refl;
  marks = record {
    store = refl;
    staged = record {
      table = refl;
      batch = refl;
      copied = refl;
      draft = refl;
    };
    ready =
        let q = c.requires in
        joined_ready _ _ _ _ _ c.args.self.now.meta _ _ q.rebuilding q.there q.ready;
  };
  up = λ serves.
      let q = c.requires in
      joined_up _ _ _ _ _ c.args.self.now.meta _ _ q.rebuilding q.there q.ready serves;
  absent = search rules;
  stands = λ d units fresh h lo.
      let q = c.requires in
      let old = c.args.self.now in
      joined_stands g.R.Rack.slot_count g.R.Rack.slot g.R.Rack.told old q.ready (g.met.R.Rack.agrees (store_rack old.store)) q.there q.nothing d units fresh h lo;
}
