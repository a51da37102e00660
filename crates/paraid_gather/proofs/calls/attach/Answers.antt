use Rattle.std.proofs.Common.{◌||◌, refl, ◌∙◌, ap, true, false, Bool}
use Rattle.std.proofs.lemmas.Bool.{false≢true, true≢false}
use Rattle.paraid_rack.specs.Disks.{step, with_at}
use Rattle.paraid_rack.specs.Trail.{now}
use Rattle.paraid_rack.specs.declared.call.Power.TheVariants.{Spinning}
use Rattle.paraid_rack.specs.declared.call.Call.TheVariants.{Attach}
use Rattle.paraid_rack.proofs.AtomsLemmas.{with_at_same}
use Rattle.paraid_gather.specs.Waiting.{Waiting, run_of, waiting, waits}
use Rattle.paraid_gather.proofs.AboveLemmas.{attach_above}
use Rattle.paraid_gather.proofs.DoesLemmas.{does_call, fits_none, none_waiting, same_elsewhere}
use Rattle.paraid_gather.proofs.PowerCallsLemmas.{power_calls_call}
use Rattle.paraid_gather.proofs.calls.attach.Goals as goal

pub returns-in_default-clause-does : goal.returns-in_default-clause-does
returns-in_default-clause-does g c =
    let d = c.args.disk in
    let run = run_of c.args.run.now in
    let slot = g.R.Rack.slot c.args.rack.now d in
    does_call g.R.Rack c.args.rack.now c.attach.new.self d run run (record slot { power = Spinning; size = c.args.size; unsynced = false }) _ slot.unsynced (slot.unsynced || waits run) false (Attach d c.args.size false)
    (step (Attach d c.args.size false)) c.in_default.ensures.slots (λ is. absurd (false≢true is)) (λ is. absurd (false≢true is)) (λ _. refl)
    (λ w s t is a. attach_above (now t) (with_at w d run) (with_at w d run) s d (λ e not. refl) c.args.size false a (λ is. absurd (false≢true is))) c.in_default.ensures.slot c.in_default.ensures.told

pub returns-in_default-clause-power_calls : goal.returns-in_default-clause-power_calls
returns-in_default-clause-power_calls g c = power_calls_call (g.R.Rack.told c.args.rack.now) (g.R.Rack.told c.attach.new.self) (Attach c.args.disk c.args.size false) c.in_default.ensures.told

pub returns-clause-does : goal.returns-clause-does
returns-clause-does g c =
    let d = c.args.disk in
    let run = run_of c.args.run.now in
    let run' = run_of c.clear.new.self in
    let slot = g.R.Rack.slot c.args.rack.now d in
    let below = record slot { power = Spinning; size = c.args.size; unsynced = false } in
    let empty = ap waits c.clear.ensures in
    does_call g.R.Rack c.args.rack.now c.attach.new.self d run run' below _ slot.unsynced _ true (Attach d c.args.size true) (step (Attach d c.args.size true)) c.in-Ok.ensures.slots
    (λ _. fits_none below run' empty) (λ _. ap (λ (u : Bool). record below { unsynced = u }) empty) (λ is. absurd (true≢false is))
    (λ w s t is a. attach_above (now t) (with_at w d run) (with_at w d run') s d (same_elsewhere w d run run') c.args.size true a
    (λ _ p. ap (λ (v : Waiting). waiting v p) (with_at_same w d run' d refl) ∙ none_waiting run' empty p)) c.in-Ok.ensures.slot c.in-Ok.ensures.told

pub returns-clause-power_calls : goal.returns-clause-power_calls
returns-clause-power_calls g c = power_calls_call (g.R.Rack.told c.args.rack.now) (g.R.Rack.told c.attach.new.self) (Attach c.args.disk c.args.size true) c.in-Ok.ensures.told
