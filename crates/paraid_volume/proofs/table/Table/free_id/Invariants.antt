use Rattle.std.proofs.Common.{ℕ, ◌<◌, ◌≤◌}
use Rattle.paraid_volume.specs.TableBlocks.{in_table}
use Rattle.paraid_volume.specs.Tables.{IsLiveId}
use Rattle.paraid_volume.proofs.table.Table.free_id.Given as goal

abbrev pub invariant-loop-id : goal.invariant-loop-id
invariant-loop-id l = (i : ℕ) → 1 ≤ i → i < l.id → IsLiveId (in_table l.self) i
