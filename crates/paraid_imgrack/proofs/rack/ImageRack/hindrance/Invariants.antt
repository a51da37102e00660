use Rattle.std.proofs.Common.{◌≡◌, ◌<◌, ℕ, None}
use Rattle.paraid_imgrack.specs.Images.{hindrance_at}
use Rattle.paraid_imgrack.proofs.rack.ImageRack.hindrance.Given as goal

abbrev pub invariant-loop-disk : goal.invariant-loop-disk
invariant-loop-disk g l = (d : ℕ) → d < l.disk → hindrance_at l.fn.self.images.items d ≡ None
