use Rattle.std.proofs.Common.{◌≡◌, ℕ, ◌<◌}
use Rattle.paraid_volume.specs.TableBlocks.{in_table}
use Rattle.paraid_volume.specs.Tables.{owner_in}
use Rattle.paraid_volume.proofs.LaidLemmas.{Taking}
use Rattle.paraid_volume.proofs.table.Table.take.Given as goal

abbrev pub invariant-loop-extent : goal.invariant-loop-extent
invariant-loop-extent l = Taking (owner_in (in_table l.fn.self)) (owner_in (in_table l.self)) l.id l.count l.extent l.left × ((k : ℕ) → k < 2 → in_table l.self k ≡ in_table l.fn.self k)
