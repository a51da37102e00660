use Rattle.std.proofs.Common.{ℕ, ◌<◌}
use Rattle.paraid_volume.specs.TableBlocks.{in_table}
use Rattle.paraid_volume.specs.Tables.{owner_in, extents_owned, IsLiveId}
use Rattle.paraid_volume.proofs.table.Table.are_some.Given as goal

abbrev pub invariant-loop-id : goal.invariant-loop-id
invariant-loop-id l = (id : ℕ) → id < l.id → IsLiveId (in_table l.self) id → 0 < extents_owned (owner_in (in_table l.self)) id l.extents
