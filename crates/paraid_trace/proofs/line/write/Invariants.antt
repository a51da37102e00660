use Rattle.std.proofs.Common.{◌-◌, ◌≤◌, length}
use Rattle.paraid_trace.proofs.GroupSteps.{Midway}
use Rattle.paraid_trace.proofs.line.write.Given as goal

abbrev pub invariant-loop-end : goal.invariant-loop-end
invariant-loop-end l = record {
  midway : Midway l.text l.pairs l.end;
  within : l.end ≤ length l.text;
}

abbrev pub decreases-loop-end : goal.decreases-loop-end
decreases-loop-end l = length l.text - l.end
