use Rattle.paraid_volume.specs.TableBlocks.{in_table}
use Rattle.paraid_volume.proofs.LaidLemmas.{Laying}
use Rattle.paraid_volume.proofs.table.Table.changes.Given as goal

abbrev pub invariant-loop-at : goal.invariant-loop-at
invariant-loop-at l = Laying (in_table l.self) (in_table l.new) l.at l.pairs
