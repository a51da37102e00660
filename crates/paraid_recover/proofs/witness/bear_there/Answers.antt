use Rattle.std.specs.Prelude.{◌≡◌, ℕ, true, false, Some}
use Rattle.std.proofs.Common.{ap, arith, refl, subst, sym, ◌∙◌}
use Rattle.paraid_rack.specs.declared.call.Call.TheVariants.{Read}
use Rattle.paraid_rack.specs.Disks.{is_present}
use Rattle.paraid_rack.specs.Slots.{Slot}
use Rattle.paraid_rack.specs.Trail.{now}
use Rattle.paraid_image.specs.Sides.{is_open}
use Rattle.paraid_txn.specs.Stores.{store_rack}
use Rattle.paraid_recover.specs.Bearing.{IsNamedLog, IsOnBearer}
use Rattle.paraid_recover.proofs.BearerLemmas.{bearer_call, borne_failed, borne_read, borne_then}
use Rattle.paraid_recover.proofs.OpenLemmas.{open_read, shut_after}
use Rattle.paraid_recover.proofs.witness.bear_there.Given.{Over}
use Rattle.paraid_recover.proofs.witness.bear_there.Goals as goal
use Rattle.paraid_recover.proofs.witness.bear_there.Goals.{After-read, In-Ok}

named : (g : Over) (c : After-read g) → IsNamedLog (Some c.args.disk) c.from.result
named g c = (ap Some (sym c.from.ensures), (let low = c.requires.log_disk in let same = c.from.ensures in omega arith))

-- the place was read
read : (g : Over) (c : In-Ok g) → IsOnBearer g.R.Rack (Some c.args.disk) c.args.store.now c.read.new.self true
read g c =
    let call = c.in-Ok.ensures in
    let a = g.R.Rack.slot (store_rack c.args.store.now) 2 in
    bearer_call g.R.Rack (Some c.args.disk) c.args.store.now c.read.new.self (λ done. Read 2 c.from.result done) a a.unsynced true call.slots call.same refl refl refl call.slot call.told
    (refl, named g (goal.at.In-Ok g c).After-read) refl (λ s tells. (g.met.R.Rack.agrees (store_rack c.args.store.now) s tells).power 2 ∙ c.requires.spinning) (ap is_present c.requires.spinning)

pub returns-in_default-clause-borne : goal.returns-in_default-clause-borne
returns-in_default-clause-borne g c =
    let at = goal.at.returns-in_default-clause-borne g c in
    let call = c.in_default.ensures in
    let a = g.R.Rack.slot (store_rack c.args.store.now) 2 in
    borne_failed g.R.Rack (Some c.args.disk) c.args.store.now c.read.new.self
    (bearer_call g.R.Rack (Some c.args.disk) c.args.store.now c.read.new.self (λ done. Read 2 c.from.result done) a a.unsynced false call.slots call.same refl refl refl call.slot call.told
    (refl, named g at.After-read) refl (λ s tells. (g.met.R.Rack.agrees (store_rack c.args.store.now) s tells).power 2 ∙ c.requires.spinning) (ap is_present c.requires.spinning))
    (open_read (Some c.args.disk) (g.R.Rack.told (store_rack c.args.store.now)) (g.R.Rack.told (store_rack c.read.new.self)) c.from.result false call.told)

pub returns-then-opens-clause-borne : goal.returns-then-opens-clause-borne
returns-then-opens-clause-borne g c =
    let at = goal.at.returns-then-opens-clause-borne g c in
    let call = c.in-Ok.ensures in
    borne_read g.R.Rack (Some c.args.disk) c.args.store.now c.read.new.self c.from.result c.read.new.into (named g at.After-read).0 (read g at.In-Ok)
    (ap (λ (s : Slot). s.unsynced) (call.slot.done refl)) call.told call.bytes (sym c.opens.ensures ∙ c.if-opens.true)

pub open_place-requires-clause-closed : goal.open_place-requires-clause-closed
open_place-requires-clause-closed g c t tells =
    shut_after (g.R.Rack.told (store_rack c.args.store.now)) (g.R.Rack.told (store_rack c.read.new.self)) c.from.result c.args.disk c.read.new.into c.from.ensures c.in-Ok.ensures.told c.in-Ok.ensures.bytes
    (sym c.opens.ensures ∙ c.if-opens.false) t tells

pub returns-in_default-open_place-clause-borne : goal.returns-in_default-open_place-clause-borne
returns-in_default-open_place-clause-borne g c =
    borne_then g.R.Rack (Some c.args.disk) c.args.store.now c.read.new.self c.open_place.new.store c.args.disk false refl (read g (goal.at.returns-in_default-open_place-clause-borne g c).In-Ok)
    (λ was. ap (λ (s : Slot). s.unsynced) (c.in-Ok.ensures.slot.done refl) ∙ was) c.in_default-open_place.ensures
    (λ s tells. subst (λ (k : ℕ). is_open ((now s).block 2 k) ≡ false) c.from.ensures (ap is_open (sym (c.in-Ok.ensures.bytes s tells)) ∙ sym c.opens.ensures ∙ c.if-opens.false))

pub returns-clause-borne : goal.returns-clause-borne
returns-clause-borne g c =
    borne_then g.R.Rack (Some c.args.disk) c.args.store.now c.read.new.self c.open_place.new.store c.args.disk true refl (read g (goal.at.returns-clause-borne g c).In-Ok)
    (λ was. ap (λ (s : Slot). s.unsynced) (c.in-Ok.ensures.slot.done refl) ∙ was) c.in-Ok-open_place.ensures
    (λ s tells. subst (λ (k : ℕ). is_open ((now s).block 2 k) ≡ false) c.from.ensures (ap is_open (sym (c.in-Ok.ensures.bytes s tells)) ∙ sym c.opens.ensures ∙ c.if-opens.false))
