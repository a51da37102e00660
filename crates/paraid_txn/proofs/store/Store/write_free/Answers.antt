use Rattle.std.specs.Prelude.{is_ok}
use Rattle.paraid_txn.proofs.KnownLemmas.{known_write, still_enough}
use Rattle.paraid_txn.proofs.store.Store.write_free.Goals as goal

pub invariant_of-self : goal.invariant_of-self
invariant_of-self g c = record {
  exists = still_enough c.write.ensures.slots c.args.self.now.exists;
  known = known_write c.args.self.now.borne c.borne_beside-self.result c.args.disk c.args.place c.args.block.now (is_ok c.write.result)
      c.borne_beside-self.ensures.known c.write.ensures.told c.args.self.now.known;
}
