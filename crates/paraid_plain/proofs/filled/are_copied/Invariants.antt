use Rattle.std.proofs.Common.{ℕ, ◌<◌}
use Rattle.paraid_plain.specs.Parts.{AreCopied}
use Rattle.paraid_plain.specs.Views.{view_at}
use Rattle.paraid_plain.proofs.filled.are_copied.Given as goal

abbrev pub invariant-loop-row : goal.invariant-loop-row
invariant-loop-row l = (r : ℕ) → r < l.row → AreCopied (view_at l.image l.says) l.gear l.at r
