use Rattle.std.specs.Prelude.{is_ok}
use Rattle.paraid_txn.proofs.KnownLemmas.{known_sync, still_enough}
use Rattle.paraid_txn.proofs.store.Store.sync.Goals as goal

pub invariant_of-self : goal.invariant_of-self
invariant_of-self g c = record {
  exists = still_enough c.sync.ensures.slots c.args.self.now.exists;
  known = known_sync c.args.self.now.borne c.args.disk (is_ok c.sync.result) c.sync.ensures.told c.args.self.now.known;
}
