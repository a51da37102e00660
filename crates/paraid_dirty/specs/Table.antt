-- What a dirty table means: a list of rows, each a list of eight bits
use Rattle.std.specs.Prelude.{◌≡◌, ◌⊎◌, ℕ, ◌+◌, ◌*◌, ◌<◌, ◌≤◌, ◌==◌, ◌&&◌, nat_le, Bool, true, false, List, [], length, map, slice_index, slice_index_or, if◌then◌else◌}
use Rattle.std.specs.List.{range_with_len}
use Rattle.paraid_base.specs.declared.block.Block.{Block}
use Rattle.paraid_base.specs.Sums.{sum_before}
use Rattle.paraid_dirty.specs.Bits.{bit_in, bit_of}

-- the eight bits of a row: eight rows stand in a word, one after the other
unfoldable pub row_bits : List ℕ → ℕ → List Bool
row_bits words r = map (λ d. bit_in words (8 * r + d)) (range_with_len 0 8)

-- the rows of a table
abbrev pub rows_of : List ℕ → ℕ → List (List Bool)
rows_of words rows = map (row_bits words) (range_with_len 0 rows)

-- The words have room for the rows and nothing past them. A word of which the marks have no bit
-- is 0.
pub record IsDirtyTable (words marks : List ℕ) (rows : ℕ) : Type 0 where
  pub few : rows ≤ 65536
  pub small : length words ≤ 8192
  pub room : rows ≤ 8 * length words
  pub marks_small : length marks ≤ 128
  pub marks_room : length words ≤ 64 * length marks
  pub unused : (p : ℕ) → 8 * rows ≤ p → bit_in words p ≡ false
  pub marked : (w : ℕ) → bit_in marks w ≡ false → slice_index words w ≡ 0

-- the bit of the cell of row `r` and disk `d`; what is outside the table is clean
unfoldable pub is_dirty : List (List Bool) → ℕ → ℕ → Bool
is_dirty table r d = slice_index_or (slice_index_or table r []) d false

-- the cells with the one of row `r` and disk `d` changed to `bit`
abbrev pub table_with_bit : (ℕ → ℕ → Bool) → ℕ → ℕ → Bool → ℕ → ℕ → Bool
table_with_bit dirty r d bit q e = if q == r && e == d then bit else dirty q e

-- 1 where the cell is dirty and its disk is `lo` or above
abbrev pub cell_count : (ℕ → ℕ → Bool) → ℕ → ℕ → ℕ → ℕ
cell_count dirty lo r d = if nat_le lo d && dirty r d then 1 else 0

-- how many cells of row `r` are dirty, on disks from `lo` to `hi - 1`
abbrev pub row_count : (ℕ → ℕ → Bool) → ℕ → ℕ → ℕ → ℕ
row_count dirty lo hi r = sum_before (cell_count dirty lo r) hi

-- how many cells of the first `rows` rows are dirty, on disks from `lo` to `hi - 1`
abbrev pub dirty_count : (ℕ → ℕ → Bool) → ℕ → ℕ → ℕ → ℕ
dirty_count dirty rows lo hi = sum_before (row_count dirty lo hi) rows

-- no cell is dirty on disks from `lo` to `hi - 1`
pub record IsClean (dirty : ℕ → ℕ → Bool) (lo hi : ℕ) : Type 0 where
  pub clean : (r d : ℕ) → lo ≤ d → d < hi → dirty r d ≡ false

-- The cell of row `r` and disk `d` is the first dirty one, by row and then by disk, on disks
-- from `lo` to `hi - 1`
pub record IsFirstDirty (dirty : ℕ → ℕ → Bool) (lo hi r d : ℕ) : Type 0 where
  pub low : lo ≤ d
  pub high : d < hi
  pub is : dirty r d ≡ true
  pub rows_before : (q e : ℕ) → q < r → lo ≤ e → e < hi → dirty q e ≡ false
  pub disks_before : (e : ℕ) → lo ≤ e → e < d → dirty r e ≡ false

-- the cell of row `q` and disk `e` comes after the one of row `r` and disk `d`, or is that one
abbrev pub IsFrom : ℕ → ℕ → ℕ → ℕ → Type 0
IsFrom r d q e = (r < q) ⊎ ((r ≡ q) × (d ≤ e))

-- no cell from the one of row `r` and disk `d` on is dirty on disks from `lo` to `hi - 1`
pub record IsCleanFrom (dirty : ℕ → ℕ → Bool) (r d lo hi : ℕ) : Type 0 where
  pub clean : (q e : ℕ) → IsFrom r d q e → lo ≤ e → e < hi → dirty q e ≡ false

-- from the cell of row `r` and disk `d` on, the first dirty one on disks from `lo` to `hi - 1` is
-- that of row `q` and disk `e`
pub record IsFirstFrom (dirty : ℕ → ℕ → Bool) (r d lo hi q e : ℕ) : Type 0 where
  pub low : lo ≤ e
  pub high : e < hi
  pub from : IsFrom r d q e
  pub is : dirty q e ≡ true
  pub rows_before : (p c : ℕ) → IsFrom r d p c → p < q → lo ≤ c → c < hi → dirty p c ≡ false
  pub disks_before : (c : ℕ) → IsFrom r d q c → lo ≤ c → c < e → dirty q c ≡ false

-- a block of the map that shows these bits of the rows from `512 * j` on, one row a byte
pub record ShowsBits (b : Block) (j : ℕ) (dirty : ℕ → ℕ → Bool) : Type 0 where
  pub bits : (i d : ℕ) → i < 512 → bit_of (slice_index b.bytes i) d ≡ dirty (512 * j + i) d
