use Rattle.std.proofs.Common.{ℕ, ◌<◌, get_or}
use Rattle.paraid_record.specs.declared.targets.Target.{Target}
use Rattle.paraid_plain.specs.Images.{disks_in}
use Rattle.paraid_plain.specs.LogParts.{IsTargetSpinning}
use Rattle.paraid_plain.specs.Views.{out_at}
use Rattle.paraid_plain.proofs.log.are_spinning_on.Given as goal

abbrev pub invariant-loop-target : goal.invariant-loop-target
invariant-loop-target l = (k : ℕ) (t : Target) → k < l.target-index → IsTargetSpinning (disks_in l.image).power (out_at l.image l.says) (get_or l.targets k t)
