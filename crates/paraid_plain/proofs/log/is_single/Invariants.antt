use Rattle.std.proofs.Common.{ℕ, ◌<◌}
use Rattle.paraid_plain.specs.Images.{disks_in}
use Rattle.paraid_plain.specs.LogParts.{IsSingleWith}
use Rattle.paraid_plain.proofs.log.is_single.Given as goal

abbrev pub invariant-loop-disk : goal.invariant-loop-disk
invariant-loop-disk l = (d : ℕ) → d < l.disk → IsSingleWith (disks_in l.image).power l.says.meta d
