use Rattle.std.specs.Prelude.{◌≡◌, Bool, true}
use Rattle.std.proofs.Common.{ap, refl, sym, ◌∙◌}
use Rattle.paraid_rack.specs.declared.call.Call.TheVariants.{SpinUp}
use Rattle.paraid_rack.specs.declared.call.Power.TheVariants.{Spinning}
use Rattle.paraid_rack.specs.Disks.{is_present}
use Rattle.paraid_txn.specs.Stores.{store_rack}
use Rattle.paraid_recover.specs.Powers.{is_to_spin}
use Rattle.paraid_recover.proofs.PowersLemmas.{to_spin_not, to_spin_up, turned_call, turned_none}
use Rattle.paraid_recover.proofs.powering.spin_up_one.Given.{Over}
use Rattle.paraid_recover.proofs.powering.spin_up_one.Goals as goal
use Rattle.paraid_recover.proofs.powering.spin_up_one.Goals.{After-spin_up}

pub spin_up-requires : goal.spin_up-requires
spin_up-requires g c = record { exists = c.requires.exists; parked = c.requires.parked }

pub returns-then-not-is_to_spin : goal.returns-then-not-is_to_spin
returns-then-not-is_to_spin g c =
    turned_none g.R.Rack c.args.meta.now c.args.disk c.args.store.now
    (λ not here. c.requires.parked ∙ (to_spin_not c.args.meta.now c.args.disk (sym c.is_to_spin.ensures ∙ c.if-not-is_to_spin.true)).2)

spins : (g : Over) (c : After-spin_up g) → is_to_spin c.args.meta.now c.args.disk ≡ true
spins g c = sym c.is_to_spin.ensures ∙ c.if-not-is_to_spin.false

pub returns : goal.returns
returns g c =
    let at = goal.at.returns g c in
    let call = c.spin_up.ensures in
    let up = to_spin_up c.args.meta.now c.args.disk (spins g at.After-spin_up) c.requires.high in
    turned_call g.R.Rack c.args.meta.now c.args.disk c.args.store.now c.spin_up.new.self (λ (done : Bool). SpinUp c.args.disk done) Spinning c.spin_up.result call.slots call.same call.slot call.told
    (λ done. (c.requires.low, c.requires.high, up.0, c.requires.in_use))
    (λ done. (refl, refl))
    (λ s done tells. (g.met.R.Rack.agrees (store_rack c.args.store.now) s tells).power c.args.disk ∙ c.requires.parked)
    (ap is_present c.requires.parked) refl up.1 c.requires.in_use call.lost
