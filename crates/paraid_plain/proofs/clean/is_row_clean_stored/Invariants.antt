use Rattle.std.proofs.Common.{ℕ, ◌<◌, ◌≤◌}
use Rattle.paraid_plain.specs.Parts.{IsCleanStored}
use Rattle.paraid_plain.specs.Views.{view_at}
use Rattle.paraid_plain.proofs.clean.is_row_clean_stored.Given as goal

abbrev pub invariant-loop-disk : goal.invariant-loop-disk
invariant-loop-disk l = (d : ℕ) → l.says.meta.gear ≤ d → d < l.disk → IsCleanStored (view_at l.image l.says) l.row d
