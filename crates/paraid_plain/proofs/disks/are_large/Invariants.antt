use Rattle.std.proofs.Common.{ℕ, ◌<◌}
use Rattle.paraid_plain.specs.Images.{disks_in}
use Rattle.paraid_plain.specs.Parts.{IsLarge}
use Rattle.paraid_plain.specs.Views.{out_at}
use Rattle.paraid_plain.proofs.disks.are_large.Given as goal

abbrev pub invariant-loop-disk : goal.invariant-loop-disk
invariant-loop-disk l = (d : ℕ) → d < l.disk → IsLarge (disks_in l.image) l.says.meta (out_at l.image l.says) d
