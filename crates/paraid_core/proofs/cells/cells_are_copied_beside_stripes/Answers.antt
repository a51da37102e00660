use Rattle.paraid_core.proofs.MarkCellLemmas.{cells_begin, stripes_go_on}
use Rattle.paraid_core.proofs.cells.cells_are_copied_beside_stripes.Goals as goal

pub returns : goal.returns
returns c = record { cells = cells_begin; stripes = stripes_go_on }
