use Rattle.std.proofs.Common.{◌≡◌, ◌≤◌}
use Rattle.paraid_schedule.specs.Bounds.{rank}
use Rattle.paraid_schedule.proofs.check.rank.Given as goal

abbrev pub invariant-loop-e : goal.invariant-loop-e
invariant-loop-e l = record {
  counted : l.count ≡ rank l.geometry l.e;
  few : l.count ≤ l.e;
}
