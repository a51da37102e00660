use Rattle.std.proofs.Common.{ℕ, ◌≡◌, ◌<◌, ◌+◌, ◌*◌, length, slice_index}
use Rattle.paraid_dirty.specs.Bits.{bit_of}
use Rattle.paraid_dirty.specs.Table.{is_dirty}
use Rattle.paraid_dirty.proofs.table.DirtyTable.map_block.Given as goal

abbrev pub invariant-loop-at : goal.invariant-loop-at
invariant-loop-at l = record {
  length : length l.bytes ≡ 512;
  bits : (k d : ℕ) → k < 8 * l.at → bit_of (slice_index l.bytes k) d ≡ is_dirty l.self (512 * l.j + k) d;
}
