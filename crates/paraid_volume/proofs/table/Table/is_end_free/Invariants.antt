use Rattle.std.proofs.Common.{◌≡◌, ℕ, ◌<◌, ◌≤◌}
use Rattle.paraid_volume.specs.TableBlocks.{in_table}
use Rattle.paraid_volume.specs.Tables.{owner_in}
use Rattle.paraid_volume.proofs.table.Table.is_end_free.Given as goal

abbrev pub invariant-loop-extent : goal.invariant-loop-extent
invariant-loop-extent l = (e : ℕ) → l.extents ≤ e → e < l.extent → owner_in (in_table l.self) e ≡ 0
