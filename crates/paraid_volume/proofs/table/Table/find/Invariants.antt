use Rattle.std.proofs.Common.{ℕ, ◌<◌}
use Rattle.paraid_volume.specs.TableBlocks.{in_table}
use Rattle.paraid_volume.specs.Tables.{IsLiveId}
use Rattle.paraid_volume.specs.NameValues.{IsNameOf}
use Rattle.paraid_volume.proofs.table.Table.find.Given as goal

abbrev pub invariant-loop-id : goal.invariant-loop-id
invariant-loop-id l = (id : ℕ) → id < l.id → IsLiveId (in_table l.self) id → IsNameOf (in_table l.self) id l.name → ⊥
