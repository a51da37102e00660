use Rattle.std.proofs.Common.{ℕ, ◌<◌, slice_index}
use Rattle.paraid_schedule.specs.Schedule.{GearServes}
use Rattle.paraid_schedule.proofs.check.are_served.Given as goal

abbrev pub invariant-loop-t : goal.invariant-loop-t
invariant-loop-t l = (k : ℕ) → k < l.t → GearServes l.setup (slice_index l.demand k) (slice_index l.gears k)
