use Rattle.std.proofs.Common.{◌||◌, refl, ◌∙◌, ap, false, Bool, is_ok, []}
use Rattle.paraid_rack.specs.Disks.{is_present, step, with_at}
use Rattle.paraid_rack.specs.Trail.{now}
use Rattle.paraid_rack.specs.declared.call.Call.TheVariants.{Sync}
use Rattle.paraid_rack.specs.Slots.{Slot}
use Rattle.paraid_rack.proofs.AtomsLemmas.{with_at_same}
use Rattle.paraid_gather.specs.Waiting.{Waiting, run_of, waiting, waits}
use Rattle.paraid_gather.proofs.AboveLemmas.{present_above, sync_above}
use Rattle.paraid_gather.proofs.DoesLemmas.{does_call, does_lost_sync, does_then, fits_none, none_waiting}
use Rattle.paraid_gather.proofs.PowerCallsLemmas.{power_calls_call, power_calls_then}
use Rattle.paraid_gather.proofs.calls.sync.Goals as goal

pub returns-in_default-clause-does : goal.returns-in_default-clause-does
returns-in_default-clause-does g c = does_lost_sync g.R.Rack c.args.rack.now c.write_out.new.rack c.args.disk (run_of c.args.run.now) (run_of c.write_out.new.run) _ _ _ c.in_default.ensures.does

pub returns-in_default-clause-power_calls : goal.returns-in_default-clause-power_calls
returns-in_default-clause-power_calls g c = c.in_default.ensures.power_calls

pub returns-clause-does : goal.returns-clause-does
returns-clause-does g c =
    let d = c.args.disk in
    let run = run_of c.args.run.now in
    let between = run_of c.write_out.new.run in
    let slot = g.R.Rack.slot c.write_out.new.rack d in
    let ok = is_ok c.sync.result in
    let empty = c.in-Ok.ensures.empty refl in
    let spins = c.in-Ok.ensures.spins refl in
    does_then g.R.Rack c.args.rack.now c.write_out.new.rack c.sync.new.self d run between between _ c.in-Ok.ensures.does (λ (x : Slot). record x { unsynced = false }) (λ (x : Slot). x.unsynced) ok (step (Sync d ok))
    (does_call g.R.Rack c.write_out.new.rack c.sync.new.self d between between (record slot { unsynced = false }) _ slot.unsynced (slot.unsynced || waits between) ok (Sync d ok) (step (Sync d ok)) c.sync.ensures.slots
    (λ _. fits_none _ between empty) (λ _. ap (λ (u : Bool). record slot { unsynced = u }) empty) (λ _. refl)
    (λ w s t is a. sync_above (now t) (with_at w d between) s a d (present_above (now t) (with_at w d between) s a d (ap is_present ((g.met.R.Rack.agrees c.write_out.new.rack t is).power d ∙ spins))) ok
    (λ p. ap (λ (v : Waiting). waiting v p) (with_at_same w d between d refl) ∙ none_waiting between empty p))
    c.sync.ensures.slot c.sync.ensures.told)

pub returns-clause-power_calls : goal.returns-clause-power_calls
returns-clause-power_calls g c = power_calls_then (g.R.Rack.told c.args.rack.now) (g.R.Rack.told c.write_out.new.rack) (g.R.Rack.told c.sync.new.self) [] c.in-Ok.ensures.power_calls (power_calls_call (g.R.Rack.told c.write_out.new.rack) (g.R.Rack.told c.sync.new.self) (Sync c.args.disk (is_ok c.sync.result)) c.sync.ensures.told)
