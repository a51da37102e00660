use Rattle.std.proofs.Common.{ℕ, ◌<◌}
use Rattle.paraid_plain.specs.Parts.{AreRowCleanStored}
use Rattle.paraid_plain.specs.Views.{view_at}
use Rattle.paraid_plain.proofs.clean.are_clean_stored.Given as goal

abbrev pub invariant-loop-row : goal.invariant-loop-row
invariant-loop-row l = (r : ℕ) → r < l.row → AreRowCleanStored (view_at l.image l.says) r
