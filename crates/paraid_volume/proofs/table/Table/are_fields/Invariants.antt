use Rattle.std.proofs.Common.{ℕ, ◌<◌, ◌≤◌}
use Rattle.paraid_volume.specs.TableBlocks.{in_table}
use Rattle.paraid_volume.specs.Tables.{name_in}
use Rattle.paraid_volume.specs.Names.{IsField}
use Rattle.paraid_volume.proofs.table.Table.are_fields.Given as goal

abbrev pub invariant-loop-id : goal.invariant-loop-id
invariant-loop-id l = (id : ℕ) → 1 ≤ id → id < l.id → IsField (name_in (in_table l.self) id)
