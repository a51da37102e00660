use Rattle.std.specs.Prelude.{◌≡◌, ℕ, true, false, Some, is_ok}
use Rattle.std.proofs.Common.{ap, arith, refl, subst, sym, ◌∙◌}
use Rattle.paraid_rack.specs.declared.call.Call.TheVariants.{Write, Sync}
use Rattle.paraid_rack.specs.Disks.{is_present}
use Rattle.paraid_rack.specs.Slots.{Slot}
use Rattle.paraid_rack.specs.Trail.{now}
use Rattle.paraid_rack.proofs.TrailsLemmas.{Ran-call}
use Rattle.paraid_image.specs.Sides.{is_open}
use Rattle.paraid_txn.specs.Stores.{store_rack}
use Rattle.paraid_recover.specs.Bearing.{IsNamedLog}
use Rattle.paraid_recover.proofs.BearerLemmas.{bearer_call, borne_failed, borne_write, shut_named}
use Rattle.paraid_recover.proofs.OpenLemmas.{open_shut}
use Rattle.paraid_recover.proofs.witness.open_place.Given.{Over}
use Rattle.paraid_recover.proofs.witness.open_place.Goals as goal
use Rattle.paraid_recover.proofs.witness.open_place.Goals.{After-write_free}

named : (g : Over) (c : After-write_free g) → IsNamedLog (Some c.args.disk) c.from.result
named g c = (ap Some (sym c.from.ensures), (let low = c.requires.log_disk in let same = c.from.ensures in omega arith))

pub returns-in-Err : goal.returns-in-Err
returns-in-Err g c =
    let at = goal.at.returns-in-Err g c in
    let call = c.in-Err.ensures in
    borne_failed g.R.Rack (Some c.args.disk) c.args.store.now c.write_free.new.self
    (bearer_call g.R.Rack (Some c.args.disk) c.args.store.now c.write_free.new.self (λ done. Write 2 c.from.result c.gate-opened.result done)
    (record (g.R.Rack.slot (store_rack c.args.store.now) 2) { unsynced = true }) true false call.slots call.same refl refl refl call.slot call.told (refl, named g at.After-write_free) refl
    (λ s tells. (g.met.R.Rack.agrees (store_rack c.args.store.now) s tells).power 2 ∙ c.requires.spinning) (ap is_present c.requires.spinning))
    (open_shut (Some c.args.disk) (g.R.Rack.told (store_rack c.args.store.now)) (g.R.Rack.told (store_rack c.write_free.new.self)) (λ s cs. Unit {0})
    (Ran-call (λ s cs. Unit {0}) (g.R.Rack.told (store_rack c.args.store.now)) (g.R.Rack.told (store_rack c.write_free.new.self)) (Write 2 c.from.result c.gate-opened.result false) call.told (λ s tells. tt))
    (shut_named g.R.Rack (Some c.args.disk) c.args.store.now c.args.disk refl c.requires.closed))

pub returns-in-Ok : goal.returns-in-Ok
returns-in-Ok g c =
    let at = goal.at.returns-in-Ok g c in
    let call = c.in-Ok.ensures in
    let o = Some c.args.disk in
    let mid = c.write_free.new.self in
    let name = named g at.After-write_free in
    let first = bearer_call g.R.Rack o c.args.store.now mid (λ done. Write 2 c.from.result c.gate-opened.result done)
    (record (g.R.Rack.slot (store_rack c.args.store.now) 2) { unsynced = true }) true true call.slots call.same refl refl refl call.slot call.told (refl, name) refl
    (λ s tells. (g.met.R.Rack.agrees (store_rack c.args.store.now) s tells).power 2 ∙ c.requires.spinning) (ap is_present c.requires.spinning) in
    let spins = (first.well refl).power ∙ c.requires.spinning in
    let done = is_ok c.sync.result in
    let second = bearer_call g.R.Rack o mid c.sync.new.self (λ ok. Sync 2 ok) (record (g.R.Rack.slot (store_rack mid) 2) { unsynced = false }) (g.R.Rack.slot (store_rack mid) 2).unsynced done
    c.sync.ensures.slots c.sync.ensures.same refl refl refl c.sync.ensures.slot c.sync.ensures.told (refl, c.from.result, name) refl
    (λ s tells. (g.met.R.Rack.agrees (store_rack mid) s tells).power 2 ∙ spins) (ap is_present spins) in
    borne_write g.R.Rack o c.args.store.now mid c.sync.new.self c.from.result c.gate-opened.result done name.0 c.gate-opened.ensures first second (λ is. ap (λ (s : Slot). s.unsynced) (c.sync.ensures.slot.done is)) call.told c.sync.ensures.told
    (λ s tells. subst (λ (k : ℕ). is_open ((now s).block 2 k) ≡ false) (sym c.from.ensures) (c.requires.closed s tells))
