use Rattle.std.specs.Prelude.{◌≡◌, Bool, false}
use Rattle.std.proofs.Common.{ap, refl, sym, ◌∙◌}
use Rattle.paraid_rack.specs.declared.call.Call.TheVariants.{Park}
use Rattle.paraid_rack.specs.declared.call.Power.TheVariants.{Parked}
use Rattle.paraid_rack.specs.Disks.{is_present}
use Rattle.paraid_txn.specs.Stores.{store_rack}
use Rattle.paraid_recover.specs.Powers.{is_to_spin}
use Rattle.paraid_recover.proofs.PowersLemmas.{none_loose, to_spin_is, to_spin_not, turned_call, turned_none}
use Rattle.paraid_recover.proofs.powering.park_one.Given.{Over}
use Rattle.paraid_recover.proofs.powering.park_one.Goals as goal
use Rattle.paraid_recover.proofs.powering.park_one.Goals.{After-park}

pub park-requires : goal.park-requires
park-requires g c = record { exists = c.requires.exists; spinning = c.requires.spinning; synced = c.requires.synced }

pub returns-then-is_to_spin : goal.returns-then-is_to_spin
returns-then-is_to_spin g c =
    turned_none g.R.Rack c.args.meta.now c.args.disk c.args.store.now (λ not here. c.requires.spinning ∙ to_spin_is c.args.meta.now c.args.disk (sym c.is_to_spin.ensures ∙ c.if-is_to_spin.true))

rests : (g : Over) (c : After-park g) → is_to_spin c.args.meta.now c.args.disk ≡ false
rests g c = sym c.is_to_spin.ensures ∙ c.if-is_to_spin.false

pub returns : goal.returns
returns g c =
    let at = goal.at.returns g c in
    let call = c.park.ensures in
    let not = to_spin_not c.args.meta.now c.args.disk (rests g at.After-park) in
    turned_call g.R.Rack c.args.meta.now c.args.disk c.args.store.now c.park.new.self (λ (done : Bool). Park c.args.disk done) Parked c.park.result call.slots call.same call.slot call.told
    (λ done. (c.requires.low, not.0, not.1, c.requires.in_use))
    (λ done. (refl, refl))
    (λ s done tells.
    let agrees = g.met.R.Rack.agrees (store_rack c.args.store.now) s tells in
    (agrees.power c.args.disk ∙ c.requires.spinning, none_loose _ _ c.args.disk agrees c.requires.synced))
    (ap is_present c.requires.spinning) refl not.2 c.requires.in_use call.lost
