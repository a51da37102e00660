use Rattle.std.proofs.Common.{ℕ, ◌<◌}
use Rattle.paraid_plain.specs.Parts.{IsRowRebuilt}
use Rattle.paraid_plain.specs.Views.{view_at}
use Rattle.paraid_plain.proofs.rebuilt.are_rows_rebuilt.Given as goal

abbrev pub invariant-loop-row : goal.invariant-loop-row
invariant-loop-row l = (r : ℕ) → r < l.row → IsRowRebuilt (view_at l.image l.says) l.disk l.rebuilt r
