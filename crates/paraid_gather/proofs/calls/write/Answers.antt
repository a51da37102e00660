use Rattle.std.proofs.Common.{◌<◌, ◌||◌, refl, sym, ◌∙◌, ap, subst, true, ℕ}
use Rattle.paraid_rack.specs.Disks.{is_present, step}
use Rattle.paraid_rack.specs.declared.call.Call.TheVariants.{Write}
use Rattle.paraid_rack.specs.Slots.{Slot}
use Rattle.paraid_gather.specs.Waiting.{run_of, waits}
use Rattle.paraid_gather.specs.Bulk.{left_by}
use Rattle.paraid_gather.proofs.DoesLemmas.{does_lost_write, does_write, does_same, does_then, not_parked, or_true}
use Rattle.paraid_gather.proofs.calls.write.Goals as goal

pub returns-in_default-clause-does : goal.returns-in_default-clause-does
returns-in_default-clause-does g c =
    let run = run_of c.args.run.now in
    let slot = g.R.Rack.slot c.args.rack.now c.args.disk in
    does_lost_write g.R.Rack c.args.rack.now c.make_room.new.rack c.args.disk run (run_of c.make_room.new.run) _ _ (slot.unsynced || waits run) true c.args.place c.args.block.now
    (or_true slot.unsynced (waits run) (c.in_default.ensures.waited refl)) c.in_default.ensures.does

pub returns-in_default-clause-power_calls : goal.returns-in_default-clause-power_calls
returns-in_default-clause-power_calls g c = c.in_default.ensures.power_calls

pub returns-clause-does : goal.returns-clause-does
returns-clause-does g c =
    let d = c.args.disk in
    let run = run_of c.args.run.now in
    let between = run_of c.make_room.new.run in
    let run' = run_of c.put.new.self in
    let slot = g.R.Rack.slot c.make_room.new.rack d in
    let same = does_same g.R.Rack c.args.rack.now c.make_room.new.rack d run between _ (left_by true d) c.in-Ok.ensures.does in
    let spins = ap (λ (x : Slot). x.power) same ∙ c.requires.spinning in
    let inside = subst (λ (n : ℕ). c.args.place < n) (sym (ap (λ (x : Slot). x.size) same)) c.requires.within in
    does_then g.R.Rack c.args.rack.now c.make_room.new.rack c.make_room.new.rack d run between run' _ c.in-Ok.ensures.does (λ (x : Slot). record x { unsynced = true }) (λ (x : Slot). true) true (step (Write d c.args.place c.args.block.now true))
    (does_write g.R.Rack c.make_room.new.rack d between run' c.args.place c.args.block.now
    (record { within = λ is. c.put.ensures.within slot.size inside (c.in-Ok.ensures.does.fits.within is); still = λ is. not_parked slot.power spins is })
    c.put.ensures.any (λ t is. ap is_present ((g.met.R.Rack.agrees c.make_room.new.rack t is).power d ∙ spins)) c.put.ensures.waiting)

pub returns-clause-power_calls : goal.returns-clause-power_calls
returns-clause-power_calls g c = c.in-Ok.ensures.power_calls
