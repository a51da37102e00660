use Rattle.std.proofs.Common.{◌≡◌, ℕ, ◌<◌}
use Rattle.paraid_volume.specs.TableBlocks.{in_table}
use Rattle.paraid_volume.specs.Tables.{name_in, IsLiveId}
use Rattle.paraid_volume.proofs.table.Table.is_first.Given as goal

abbrev pub invariant-loop-other : goal.invariant-loop-other
invariant-loop-other l = (i : ℕ) → i < l.other → IsLiveId (in_table l.self) i → ((k : ℕ) → k < 16 → name_in (in_table l.self) i k ≡ name_in (in_table l.self) l.id k) → ⊥
