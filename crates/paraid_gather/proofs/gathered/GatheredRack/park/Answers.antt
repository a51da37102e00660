use Rattle.std.proofs.Common.{Bool, subst, false, refl, ◌∙◌, ap, is_ok}
use Rattle.paraid_rack.specs.declared.call.Call.TheVariants.{Park}
use Rattle.paraid_rack.specs.declared.call.Power.TheVariants.{Parked}
use Rattle.paraid_rack.specs.Slots.{Slot}
use Rattle.paraid_rack.specs.Disks.{is_present, step, with_at}
use Rattle.paraid_rack.specs.Told.{GrowsByCall}
use Rattle.paraid_rack.specs.Trail.{now}
use Rattle.paraid_gather.specs.Above.{slot_above}
use Rattle.paraid_gather.specs.Waiting.{waiting_at, waits}
use Rattle.paraid_gather.proofs.AboveLemmas.{park_above, present_above}
use Rattle.paraid_gather.proofs.DoesLemmas.{does_call, or_right, or_left, not_parked}
use Rattle.paraid_gather.proofs.StandsLemmas.{grows_above, stands_park}
use Rattle.paraid_gather.proofs.PowerCallsLemmas.{power_calls_call}
use Rattle.paraid_gather.proofs.WholeLemmas.{does_whole, with_own}
use Rattle.paraid_gather.proofs.gathered.GatheredRack.park.Goals as goal

pub park-result-requires-clause-synced : goal.park-result-requires-clause-synced
park-result-requires-clause-synced g c = or_left _ _ c.requires.synced

pub invariant_of-self : goal.invariant_of-self
invariant_of-self g c =
    let gathered = c.args.self.now in
    let w = waiting_at gathered.runs.items in
    let d = c.args.disk in
    let slot = g.R.Rack.slot gathered.rack d in
    let ok = is_ok c.park-result.result in
    let whole = does_whole g.R.Rack gathered.rack c.park-result.new.self d (w d) (w d) w w (λ (z : Slot). record z { power = Parked }) (λ (z : Slot). false) ok (step (Park d ok)) (with_own w d) (with_own w d) refl gathered.fits
    (does_call g.R.Rack gathered.rack c.park-result.new.self d (w d) (w d) (record slot { power = Parked }) (record (slot_above slot (w d)) { power = Parked }) false false ok (Park d ok) (step (Park d ok)) c.park-result.ensures.slots
    (λ _. record { within = λ spins. not_parked Parked spins refl; still = λ _. or_right slot.unsynced (waits (w d)) c.requires.synced }) (λ _. refl) (λ _. or_right slot.unsynced (waits (w d)) c.requires.synced)
    (λ v s t is a. park_above (now t) (with_at v d (w d)) s a d (present_above (now t) (with_at v d (w d)) s a d (ap is_present ((g.met.R.Rack.agrees gathered.rack t is).power d ∙ c.requires.spinning))) ok)
    c.park-result.ensures.slot c.park-result.ensures.told) in
    let grows = subst (λ (v : Bool). GrowsByCall (g.L.Noted.noted gathered.log) (g.L.Noted.noted c.note.new.self) (Park d v)) c.is_ok-done.ensures.value c.note.ensures in
    record {
      eight = gathered.eight;
      fits = whole.fits;
      stands = stands_park g.R.Rack gathered.rack c.park-result.new.self d w w (g.L.Noted.noted gathered.log) (g.L.Noted.noted c.note.new.self) (g.met.R.Rack.agrees c.park-result.new.self) gathered.stands
          ok (power_calls_call (g.R.Rack.told gathered.rack) (g.R.Rack.told c.park-result.new.self) (Park d ok) c.park-result.ensures.told) whole c.requires.spinning c.requires.synced grows;
    }

pub returns : goal.returns
returns g c =
    let gathered = c.args.self.now in
    let w = waiting_at gathered.runs.items in
    let d = c.args.disk in
    let slot = g.R.Rack.slot gathered.rack d in
    let ok = is_ok c.park-result.result in
    let whole = does_whole g.R.Rack gathered.rack c.park-result.new.self d (w d) (w d) w w (λ (z : Slot). record z { power = Parked }) (λ (z : Slot). false) ok (step (Park d ok)) (with_own w d) (with_own w d) refl gathered.fits
    (does_call g.R.Rack gathered.rack c.park-result.new.self d (w d) (w d) (record slot { power = Parked }) (record (slot_above slot (w d)) { power = Parked }) false false ok (Park d ok) (step (Park d ok)) c.park-result.ensures.slots
    (λ _. record { within = λ spins. not_parked Parked spins refl; still = λ _. or_right slot.unsynced (waits (w d)) c.requires.synced }) (λ _. refl) (λ _. or_right slot.unsynced (waits (w d)) c.requires.synced)
    (λ v s t is a. park_above (now t) (with_at v d (w d)) s a d (present_above (now t) (with_at v d (w d)) s a d (ap is_present ((g.met.R.Rack.agrees gathered.rack t is).power d ∙ c.requires.spinning))) ok)
    c.park-result.ensures.slot c.park-result.ensures.told) in
    let grows = subst (λ (v : Bool). GrowsByCall (g.L.Noted.noted gathered.log) (g.L.Noted.noted c.note.new.self) (Park d v)) c.is_ok-done.ensures.value c.note.ensures in
    record {
      slots = whole.slots;
      slot = whole.slot;
      told = grows_above (g.R.Rack.told gathered.rack) (g.R.Rack.told c.park-result.new.self) (g.L.Noted.noted gathered.log) (g.L.Noted.noted c.note.new.self) w w (Park d ok) whole.told grows;
      above = whole.told;
    }
