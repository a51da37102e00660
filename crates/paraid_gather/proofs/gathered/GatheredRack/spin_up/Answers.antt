use Rattle.std.proofs.Common.{Bool, subst, false, refl, ◌∙◌, ap, is_ok}
use Rattle.paraid_rack.specs.declared.call.Call.TheVariants.{SpinUp}
use Rattle.paraid_rack.specs.declared.call.Power.TheVariants.{Spinning}
use Rattle.paraid_rack.specs.Slots.{Slot}
use Rattle.paraid_rack.specs.Disks.{is_present, step, with_at}
use Rattle.paraid_rack.specs.Told.{GrowsByCall}
use Rattle.paraid_rack.specs.Trail.{now}
use Rattle.paraid_gather.specs.Above.{slot_above}
use Rattle.paraid_gather.specs.Laws.{slots_above_hold}
use Rattle.paraid_gather.specs.Waiting.{waiting_at}
use Rattle.paraid_gather.proofs.AboveLemmas.{spin_up_above, present_above}
use Rattle.paraid_gather.proofs.DoesLemmas.{does_call, fits_none}
use Rattle.paraid_gather.proofs.StandsLemmas.{grows_above, stands_spin_up}
use Rattle.paraid_gather.proofs.PowerCallsLemmas.{power_calls_call}
use Rattle.paraid_gather.proofs.WholeLemmas.{does_whole, with_own}
use Rattle.paraid_gather.proofs.gathered.GatheredRack.spin_up.Goals as goal

pub invariant_of-self : goal.invariant_of-self
invariant_of-self g c =
    let gathered = c.args.self.now in
    let w = waiting_at gathered.runs.items in
    let d = c.args.disk in
    let slot = g.R.Rack.slot gathered.rack d in
    let ok = is_ok c.spin_up-result.result in
    let whole = does_whole g.R.Rack gathered.rack c.spin_up-result.new.self d (w d) (w d) w w (λ (z : Slot). record z { power = Spinning }) (λ (z : Slot). false) ok (step (SpinUp d ok)) (with_own w d) (with_own w d) refl gathered.fits
    (does_call g.R.Rack gathered.rack c.spin_up-result.new.self d (w d) (w d) (record slot { power = Spinning }) (record (slot_above slot (w d)) { power = Spinning }) false false ok (SpinUp d ok) (step (SpinUp d ok)) c.spin_up-result.ensures.slots
    (λ _. fits_none _ (w d) ((gathered.fits d).still c.requires.parked)) (λ _. refl) (λ _. (gathered.fits d).still c.requires.parked)
    (λ v s t is a. spin_up_above (now t) (with_at v d (w d)) s a d (present_above (now t) (with_at v d (w d)) s a d (ap is_present ((g.met.R.Rack.agrees gathered.rack t is).power d ∙ c.requires.parked))) ok)
    c.spin_up-result.ensures.slot c.spin_up-result.ensures.told) in
    let grows = subst (λ (v : Bool). GrowsByCall (g.L.Noted.noted gathered.log) (g.L.Noted.noted c.note.new.self) (SpinUp d v)) c.is_ok-done.ensures.value c.note.ensures in
    record {
      eight = gathered.eight;
      fits = whole.fits;
      stands = stands_spin_up g.R.Rack gathered.rack c.spin_up-result.new.self d w w (g.L.Noted.noted gathered.log) (g.L.Noted.noted c.note.new.self) (g.met.R.Rack.agrees c.spin_up-result.new.self) gathered.stands
          ok (power_calls_call (g.R.Rack.told gathered.rack) (g.R.Rack.told c.spin_up-result.new.self) (SpinUp d ok) c.spin_up-result.ensures.told) whole c.requires.parked ((slots_above_hold _ (g.R.Rack.slot gathered.rack) w (g.met.R.Rack.slots_hold gathered.rack) gathered.fits).parked d c.requires.parked) grows;
    }

pub returns : goal.returns
returns g c =
    let gathered = c.args.self.now in
    let w = waiting_at gathered.runs.items in
    let d = c.args.disk in
    let slot = g.R.Rack.slot gathered.rack d in
    let ok = is_ok c.spin_up-result.result in
    let whole = does_whole g.R.Rack gathered.rack c.spin_up-result.new.self d (w d) (w d) w w (λ (z : Slot). record z { power = Spinning }) (λ (z : Slot). false) ok (step (SpinUp d ok)) (with_own w d) (with_own w d) refl gathered.fits
    (does_call g.R.Rack gathered.rack c.spin_up-result.new.self d (w d) (w d) (record slot { power = Spinning }) (record (slot_above slot (w d)) { power = Spinning }) false false ok (SpinUp d ok) (step (SpinUp d ok)) c.spin_up-result.ensures.slots
    (λ _. fits_none _ (w d) ((gathered.fits d).still c.requires.parked)) (λ _. refl) (λ _. (gathered.fits d).still c.requires.parked)
    (λ v s t is a. spin_up_above (now t) (with_at v d (w d)) s a d (present_above (now t) (with_at v d (w d)) s a d (ap is_present ((g.met.R.Rack.agrees gathered.rack t is).power d ∙ c.requires.parked))) ok)
    c.spin_up-result.ensures.slot c.spin_up-result.ensures.told) in
    let grows = subst (λ (v : Bool). GrowsByCall (g.L.Noted.noted gathered.log) (g.L.Noted.noted c.note.new.self) (SpinUp d v)) c.is_ok-done.ensures.value c.note.ensures in
    record {
      slots = whole.slots;
      slot = whole.slot;
      told = grows_above (g.R.Rack.told gathered.rack) (g.R.Rack.told c.spin_up-result.new.self) (g.L.Noted.noted gathered.log) (g.L.Noted.noted c.note.new.self) w w (SpinUp d ok) whole.told grows;
      above = whole.told;
    }
