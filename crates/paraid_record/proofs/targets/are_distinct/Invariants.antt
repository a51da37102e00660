use Rattle.std.proofs.Common.{ℕ, ◌<◌, get_or}
use Rattle.std.specs.Prelude.{◌≢◌}
use Rattle.paraid_record.specs.declared.targets.Target.{Target}
use Rattle.paraid_record.proofs.targets.are_distinct.Given as goal

abbrev pub invariant-loop-at : goal.invariant-loop-at
invariant-loop-at l = (i j : ℕ) (d : Target) → i < j → j < l.at → get_or l.targets i d ≢ get_or l.targets j d
