use Rattle.std.specs.Prelude.{◌≡◌, ℕ, ◌+◌, ◌*◌, ◌<◌, ◌≤◌, length, slice_index}
use Rattle.paraid_dirty.specs.Bits.{bit_of}
use Rattle.paraid_dirty.specs.Table.{is_dirty}
use Rattle.paraid_recover.proofs.map.take_block.Given as goal

abbrev pub invariant-loop-i : goal.invariant-loop-i
invariant-loop-i l = record {
  rows : length l.table ≡ length l.fn.table;
  here : (k d : ℕ) → k < l.i → 512 * l.j + k < length l.fn.table → d < 8
      → is_dirty l.table (512 * l.j + k) d ≡ bit_of (slice_index l.block.bytes k) d;
  wide : (q d : ℕ) → 8 ≤ d → is_dirty l.table q d ≡ is_dirty l.fn.table q d;
  before : (q d : ℕ) → q < 512 * l.j → is_dirty l.table q d ≡ is_dirty l.fn.table q d;
}
