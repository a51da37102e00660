use Rattle.std.proofs.Common.{◌≡◌, ◌≤◌}
use Rattle.paraid_schedule.specs.Bounds.{rank}
use Rattle.paraid_schedule.proofs.planner.gears_below.Given as goal

abbrev pub invariant-loop-e : goal.invariant-loop-e
invariant-loop-e l = record {
  counted : l.below ≡ rank l.geometry l.e;
  few : l.below ≤ l.e;
}
