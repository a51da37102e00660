use Rattle.std.proofs.Common.{◌≡◌, ◌<◌, ℕ, None, IfSome}
use Rattle.paraid_imgrack.specs.Images.{misfit_at, IsFirstMisfit}
use Rattle.paraid_imgrack.specs.Looks.{images_of}
use Rattle.paraid_edge.proofs.edge.tell_misfits.Given as goal

abbrev pub invariant-loop-disk : goal.invariant-loop-disk
invariant-loop-disk g l = (l.first ≡ None → (d : ℕ) → d < l.disk → misfit_at (images_of l.fn.rack) d ≡ None)
    × IfSome l.first (IsFirstMisfit (images_of l.fn.rack))
