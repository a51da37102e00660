use Rattle.std.specs.Prelude.{is_ok}
use Rattle.paraid_txn.proofs.KnownLemmas.{known_spin, still_enough}
use Rattle.paraid_txn.proofs.store.Store.spin_up.Goals as goal

pub invariant_of-self : goal.invariant_of-self
invariant_of-self g c = record {
  exists = still_enough c.spin_up.ensures.slots c.args.self.now.exists;
  known = known_spin (g.met.R.Rack.agrees c.args.self.now.rack) c.args.self.now.borne c.args.disk (is_ok c.spin_up.result)
      c.requires.parked c.spin_up.ensures.told c.args.self.now.known;
}
