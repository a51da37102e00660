use Rattle.std.proofs.Common.{ℕ, ◌<◌, ◌≤◌}
use Rattle.paraid_plain.specs.Parts.{IsCopied}
use Rattle.paraid_plain.specs.Views.{view_at}
use Rattle.paraid_plain.proofs.filled.are_copied_of.Given as goal

abbrev pub invariant-loop-disk : goal.invariant-loop-disk
invariant-loop-disk l = (d : ℕ) → l.gear ≤ d → d < l.disk → IsCopied (view_at l.image l.says) l.gear l.at l.row d
