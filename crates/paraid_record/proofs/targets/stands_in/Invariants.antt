use Rattle.std.proofs.Common.{ℕ, ◌<◌, get_or}
use Rattle.std.specs.Prelude.{◌≢◌}
use Rattle.paraid_record.specs.declared.targets.Target.{Target}
use Rattle.paraid_record.proofs.targets.stands_in.Given as goal

abbrev pub invariant-loop-other : goal.invariant-loop-other
invariant-loop-other l = (k : ℕ) (d : Target) → k < l.other-index → get_or l.others k d ≢ l.target
