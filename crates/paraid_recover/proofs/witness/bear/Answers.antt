use Rattle.std.specs.Prelude.{◌≡◌, true, Some}
use Rattle.std.proofs.Common.{sym, ◌∙◌}
use Rattle.paraid_rack.specs.Disks.{is_present}
use Rattle.paraid_txn.specs.Stores.{store_rack}
use Rattle.paraid_recover.proofs.BearerLemmas.{borne_absent, not_absent}
use Rattle.paraid_recover.proofs.witness.bear.Goals as goal

pub returns-in-Absent : goal.returns-in-Absent
returns-in-Absent g c = record {
  borne = borne_absent g.R.Rack (Some c.args.disk) c.args.store.now (sym c.power.ensures ∙ c.in-Absent.is) (λ t tells. g.met.R.Rack.agrees (store_rack c.args.store.now) t tells);
  two = tt;
}

pub bear_there-requires : goal.bear_there-requires
bear_there-requires g c =
    let here : is_present (g.R.Rack.slot (store_rack c.args.store.now) 2).power ≡ true = not_absent (g.R.Rack.slot (store_rack c.args.store.now) 2).power (λ gone. c.in_default.not-Absent (c.power.ensures ∙ gone)) in
    record { log_disk = c.requires.log_disk; exists = c.requires.exists; spinning = c.requires.ready.spins here; within = c.requires.ready.within here }

pub returns-in_default : goal.returns-in_default
returns-in_default g c = c.bear_there.ensures
