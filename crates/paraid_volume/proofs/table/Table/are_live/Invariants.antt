use Rattle.std.proofs.Common.{◌≢◌, ℕ, ◌<◌}
use Rattle.paraid_volume.specs.TableBlocks.{in_table}
use Rattle.paraid_volume.specs.Tables.{owner_in, IsLiveId}
use Rattle.paraid_volume.proofs.table.Table.are_live.Given as goal

abbrev pub invariant-loop-extent : goal.invariant-loop-extent
invariant-loop-extent l = (e : ℕ) → e < l.extent → owner_in (in_table l.self) e ≢ 0 → IsLiveId (in_table l.self) (owner_in (in_table l.self) e)
