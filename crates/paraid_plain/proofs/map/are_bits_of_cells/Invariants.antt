use Rattle.std.proofs.Common.{ℕ, ◌<◌}
use Rattle.paraid_plain.specs.Parts.{IsBitOfCell}
use Rattle.paraid_plain.specs.Views.{view_at}
use Rattle.paraid_plain.proofs.map.are_bits_of_cells.Given as goal

abbrev pub invariant-loop-row : goal.invariant-loop-row
invariant-loop-row l = (r d : ℕ) → r < l.row → IsBitOfCell (view_at l.image l.says) r d
