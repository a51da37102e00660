use Rattle.std.proofs.Common.{◌≡◌, ◌≤◌}
use Rattle.paraid_volume.specs.TableBlocks.{in_table}
use Rattle.paraid_volume.specs.Tables.{owner_in, extents_owned}
use Rattle.paraid_volume.proofs.table.Table.owned.Given as goal

abbrev pub invariant-loop-extent : goal.invariant-loop-extent
invariant-loop-extent l = (l.count ≡ extents_owned (owner_in (in_table l.self)) l.id l.extent) × (l.count ≤ l.extent)
