use Rattle.std.proofs.Common.{ℕ, ◌<◌}
use Rattle.paraid_plain.specs.Parts.{IsBitOfCell}
use Rattle.paraid_plain.specs.Views.{view_at}
use Rattle.paraid_plain.proofs.map.are_row_bits_of_cells.Given as goal

abbrev pub invariant-loop-disk : goal.invariant-loop-disk
invariant-loop-disk l = (d : ℕ) → d < l.disk → IsBitOfCell (view_at l.image l.says) l.row d
