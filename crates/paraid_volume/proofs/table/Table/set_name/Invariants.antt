use Rattle.std.proofs.Common.{◌≡◌, ◌≢◌, ℕ, ◌+◌, ◌-◌, ◌*◌, ◌<◌, ◌≤◌, slice_index}
use Rattle.paraid_volume.specs.TableBlocks.{in_table}
use Rattle.paraid_volume.specs.Tables.{name_in}
use Rattle.std.specs.Prelude.{◌⊎◌}
use Rattle.paraid_volume.proofs.table.Table.set_name.Given as goal

abbrev pub invariant-loop-at : goal.invariant-loop-at
invariant-loop-at l = record {
  here : (k : ℕ) → k < l.at → name_in (in_table l.self) l.id k ≡ slice_index l.text k;
  others : (i : ℕ) → (i < 16 * (l.id - 1) ⊎ 16 * (l.id - 1) + 16 ≤ i) → slice_index (in_table l.self 1).bytes i ≡ slice_index (in_table l.fn.self 1).bytes i;
  rest : (k : ℕ) → k ≢ 1 → in_table l.self k ≡ in_table l.fn.self k;
}
