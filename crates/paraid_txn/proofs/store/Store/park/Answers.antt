use Rattle.std.specs.Prelude.{is_ok}
use Rattle.paraid_txn.proofs.KnownLemmas.{known_park, still_enough}
use Rattle.paraid_txn.proofs.store.Store.park.Goals as goal

pub invariant_of-self : goal.invariant_of-self
invariant_of-self g c = record {
  exists = still_enough c.park.ensures.slots c.args.self.now.exists;
  known = known_park (g.met.R.Rack.agrees c.args.self.now.rack) c.args.self.now.borne c.args.disk (is_ok c.park.result)
      c.requires.spinning c.park.ensures.told c.args.self.now.known;
}
