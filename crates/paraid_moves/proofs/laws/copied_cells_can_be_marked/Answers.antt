use Rattle.paraid_moves.proofs.MoveLemmas.{marks_cells}
use Rattle.paraid_moves.proofs.laws.copied_cells_can_be_marked.Goals as goal

pub returns : goal.returns
returns c = marks_cells
