use Rattle.std.proofs.Common.{◌≡◌, ℕ, ◌<◌}
use Rattle.paraid_volume.specs.TableBlocks.{in_table}
use Rattle.paraid_volume.specs.Tables.{name_in, IsLiveId}
use Rattle.paraid_volume.proofs.table.Table.are_distinct.Given as goal

abbrev pub invariant-loop-id : goal.invariant-loop-id
invariant-loop-id l = (j i : ℕ) → j < l.id → i < j → IsLiveId (in_table l.self) i → IsLiveId (in_table l.self) j → ((k : ℕ) → k < 16 → name_in (in_table l.self) i k ≡ name_in (in_table l.self) j k) → ⊥
