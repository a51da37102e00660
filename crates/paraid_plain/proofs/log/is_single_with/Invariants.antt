use Rattle.std.proofs.Common.{◌≡◌, ℕ, ◌<◌}
use Rattle.paraid_image.specs.Out.{IsMissing}
use Rattle.paraid_plain.specs.Images.{disks_in}
use Rattle.paraid_plain.proofs.log.is_single_with.Given as goal

abbrev pub invariant-loop-other : goal.invariant-loop-other
invariant-loop-other l = (e : ℕ) → e < l.other → IsMissing (disks_in l.image).power l.says.meta e → l.disk ≡ e
