-- Which dirty bits a write leaves, whatever is told of the disks.
use Rattle.std.specs.Prelude.{ℕ, ◌&&◌, nat_lt, Bool, true, false, [], ◌∷◌, if◌then◌else◌}
use Rattle.paraid_base.specs.Cells.{home_disk, home_row, parity_disk}
use Rattle.paraid_base.specs.History.{Entry}
use Rattle.paraid_dirty.specs.Table.{table_with_bit}
use Rattle.paraid_record.specs.declared.meta.Meta.{Meta}
use Rattle.paraid_image.specs.Out.{is_out, named_out}
use Rattle.paraid_image.specs.Spot.{rising_to}

-- The bit of a cell of disk `d` after a write of it, where it was this one. A cell below the gear
-- is clean; one of a disk that a shift up has spun up is clean too, but for a dirty one of the disk
-- that is out; any other is dirty.
abbrev pub bit_after_write : Meta → ℕ → Bool → Bool
bit_after_write m d was =
    if nat_lt d m.gear then false
    else (if nat_lt d (rising_to m.phase) then is_out (named_out m.out) d && was else true)

-- the bits after a write of the cell of row `r` and disk `d`
unfoldable pub bits_after_cell : Meta → ℕ → ℕ → (ℕ → ℕ → Bool) → ℕ → ℕ → Bool
bits_after_cell m r d bits = table_with_bit bits r d (bit_after_write m d (bits r d))

-- after a write of block `b`: of its cell, and of that of its row's parity
unfoldable pub bits_after_block : Meta → ℕ → (ℕ → ℕ → Bool) → ℕ → ℕ → Bool
bits_after_block m b bits =
    let n = m.setup.geometry.disks in
    bits_after_cell m (home_row n b)
    (parity_disk n (home_row n b)) (bits_after_cell m (home_row n b) (home_disk n b) bits)

-- after a write of these blocks, one after the other
abbrev pub bits_after_writes : Meta → Entry → (ℕ → ℕ → Bool) → ℕ → ℕ → Bool
bits_after_writes m [] bits = bits
bits_after_writes m (pair ∷ entry) bits = bits_after_writes m entry (bits_after_block m pair.0 bits)
