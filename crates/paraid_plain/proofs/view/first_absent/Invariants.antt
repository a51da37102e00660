use Rattle.std.proofs.Common.{◌≡◌}
use Rattle.paraid_image.specs.Out.{first_absent}
use Rattle.paraid_plain.specs.Images.{disks_in}
use Rattle.paraid_plain.proofs.view.first_absent.Given as goal

abbrev pub invariant-loop-disk : goal.invariant-loop-disk
invariant-loop-disk l = l.found ≡ first_absent (disks_in l.image).power l.disk
