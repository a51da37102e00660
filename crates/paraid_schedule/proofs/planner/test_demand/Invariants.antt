use Rattle.std.proofs.Common.{ℕ, ◌<◌, ◌≤◌, slice_index}
use Rattle.paraid_schedule.proofs.planner.test_demand.Given as goal
use Rattle.paraid_schedule.specs.Schedule.{demand_most}

abbrev pub invariant-loop-at : goal.invariant-loop-at
invariant-loop-at l = (k : ℕ) → k < l.at → slice_index l.demand k ≤ demand_most
