use Rattle.std.proofs.Common.{ℕ, ◌<◌}
use Rattle.paraid_volume.specs.TableBlocks.{in_table}
use Rattle.paraid_volume.specs.Tables.{name_in}
use Rattle.paraid_volume.specs.Names.{IsFieldAt}
use Rattle.paraid_volume.proofs.table.Table.is_field.Given as goal

abbrev pub invariant-loop-at : goal.invariant-loop-at
invariant-loop-at l = (k : ℕ) → k < l.at → IsFieldAt (name_in (in_table l.self) l.id) k
