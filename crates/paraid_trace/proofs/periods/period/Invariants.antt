use Rattle.std.proofs.Common.{◌≤◌, ◌-◌}
use Rattle.paraid_trace.proofs.PeriodLemmas.{NoneBelow}
use Rattle.paraid_trace.proofs.periods.period.Given as goal

abbrev pub invariant-loop-p : goal.invariant-loop-p
invariant-loop-p l = record {
  low : 1 ≤ l.p;
  high : l.p ≤ 512;
  none : NoneBelow l.block.bytes l.p;
}

abbrev pub decreases-loop-p : goal.decreases-loop-p
decreases-loop-p l = 512 - l.p
