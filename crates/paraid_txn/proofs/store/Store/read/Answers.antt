use Rattle.std.specs.Prelude.{is_ok}
use Rattle.paraid_txn.proofs.KnownLemmas.{known_read, still_enough}
use Rattle.paraid_txn.proofs.store.Store.read.Goals as goal

pub invariant_of-self : goal.invariant_of-self
invariant_of-self g c = record {
  exists = still_enough c.read.ensures.slots c.args.self.now.exists;
  known = known_read c.args.self.now.borne c.args.disk c.args.place (is_ok c.read.result) c.read.ensures.told c.args.self.now.known;
}
