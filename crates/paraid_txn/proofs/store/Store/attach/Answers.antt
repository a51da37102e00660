use Rattle.std.specs.Prelude.{is_ok}
use Rattle.paraid_txn.proofs.KnownLemmas.{known_attach, still_enough}
use Rattle.paraid_txn.proofs.store.Store.attach.Goals as goal

pub invariant_of-self : goal.invariant_of-self
invariant_of-self g c = record {
  exists = still_enough c.attach.ensures.slots c.args.self.now.exists;
  known = known_attach c.args.self.now.borne c.borne_without-self.result c.args.disk c.args.size (is_ok c.attach.result)
      c.borne_without-self.ensures.known c.attach.ensures.told c.args.self.now.known;
}
