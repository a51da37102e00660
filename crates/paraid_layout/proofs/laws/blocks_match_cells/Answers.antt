use Rattle.paraid_base.proofs.CellsLemmas.{home_disk-block_of}
use Rattle.paraid_layout.proofs.laws.blocks_match_cells.Goals as goal

pub returns-clause-disk_back : goal.returns-clause-disk_back
returns-clause-disk_back c = home_disk-block_of
