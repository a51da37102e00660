use Rattle.std.proofs.Common.{ℕ, ◌+◌, ◌<◌, slice_index}
use Rattle.paraid_schedule.specs.Schedule.{IsGearStep}
use Rattle.paraid_schedule.proofs.check.are_steps.Given as goal

abbrev pub invariant-loop-t : goal.invariant-loop-t
invariant-loop-t l = (k : ℕ) → k + 1 < l.t → IsGearStep l.geometry (slice_index l.gears k) (slice_index l.gears (k + 1))
