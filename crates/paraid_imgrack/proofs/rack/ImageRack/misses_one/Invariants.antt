use Rattle.std.proofs.Common.{◌<◌, ℕ}
use Rattle.paraid_imgrack.specs.Images.{IsMissed}
use Rattle.paraid_imgrack.proofs.rack.ImageRack.misses_one.Given as goal

abbrev pub invariant-loop-disk : goal.invariant-loop-disk
invariant-loop-disk g l = (d : ℕ) → d < l.disk → d < l.fn.identity.disks → IsMissed l.fn.self.images.items l.fn.identity d → ⊥
