use Rattle.std.specs.Prelude.{◌≡◌, ◌≢◌, ℕ, ◌<◌, ◌≤◌, length}
use Rattle.paraid_dirty.specs.Bits.{bit_of}
use Rattle.paraid_dirty.specs.Table.{is_dirty}
use Rattle.paraid_recover.proofs.map.take_row.Given as goal

abbrev pub invariant-loop-disk : goal.invariant-loop-disk
invariant-loop-disk l = record {
  rows : length l.table ≡ length l.fn.table;
  here : (d : ℕ) → d < l.disk → is_dirty l.table l.row d ≡ bit_of l.byte d;
  wide : (q d : ℕ) → 8 ≤ d → is_dirty l.table q d ≡ is_dirty l.fn.table q d;
  others : (q d : ℕ) → q ≢ l.row → is_dirty l.table q d ≡ is_dirty l.fn.table q d;
}
