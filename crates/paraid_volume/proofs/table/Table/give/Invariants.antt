use Rattle.std.proofs.Common.{◌≡◌, ℕ, ◌<◌}
use Rattle.std.specs.Prelude.{nat_lt, ◌&&◌, ◌==◌, if◌then◌else◌}
use Rattle.paraid_volume.specs.TableBlocks.{in_table}
use Rattle.paraid_volume.specs.Tables.{owner_in}
use Rattle.paraid_volume.proofs.table.Table.give.Given as goal

abbrev pub invariant-loop-extent : goal.invariant-loop-extent
invariant-loop-extent l = record {
  done : (e : ℕ) → e < 2048 → owner_in (in_table l.self) e ≡ (if nat_lt e l.extent && owner_in (in_table l.fn.self) e == l.from then l.to else owner_in (in_table l.fn.self) e);
  rest : (k : ℕ) → k < 2 → in_table l.self k ≡ in_table l.fn.self k;
}
