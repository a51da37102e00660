use Rattle.std.proofs.Common.{ℕ, ◌<◌, get_or}
use Rattle.paraid_record.specs.declared.targets.Target.{Target}
use Rattle.paraid_record.specs.Targets.{IsTargetInRange}
use Rattle.paraid_record.proofs.targets.are_each_in_range.Given as goal

abbrev pub invariant-loop-target : goal.invariant-loop-target
invariant-loop-target l = (k : ℕ) (d : Target) → k < l.target-index → IsTargetInRange l.geometry (get_or l.targets k d)
