-- What the write of several blocks makes of each row that it touches.
use Rattle.std.specs.Prelude.{◌≡◌, ℕ, ◌+◌, ◌-◌, ◌*◌, ◌<◌, ◌==◌, ◌&&◌, ◌||◌, nat_lt, Bool, true, false, not, List, [], ◌∷◌, ◌++◌, length, get_or, take, Option, Some, None, if◌then◌else◌}
use Rattle.paraid_base.specs.declared.block.Block.{Block}
use Rattle.paraid_base.specs.declared.pairs.Pairs.{Pairs}
use Rattle.paraid_base.specs.Cells.{cell_block, home_row, parity_disk}
use Rattle.paraid_base.specs.History.{Entry, last_of}
use Rattle.paraid_base.specs.Pairs.{numbered_blocks, pairs_of}
use Rattle.paraid_base.specs.Sums.{without, xor_upto}
use Rattle.paraid_base.specs.Xor.{xor, zero_block}
use Rattle.paraid_plan.specs.Desk.{Desk, IsKeptDesk, sees}
use Rattle.paraid_plan.specs.Placed.{ArePlaced}
use Rattle.paraid_plan.specs.StoredCells.{AreBits, StoresCells}
use Rattle.paraid_plan.specs.WriteTargets.{needs_old, overlaid_blocks}
use Rattle.paraid_rack.specs.declared.call.Power.{Power}
use Rattle.paraid_record.specs.declared.meta.Meta.{Meta}
use Rattle.paraid_image.specs.Content.{blocks_of}
use Rattle.paraid_image.specs.Out.{named_out}
use Rattle.paraid_image.specs.Sides.{Batch}
use Rattle.paraid_base.specs.Regions.{array_blocks}

-- whether one of the pairs names block `b`
unfoldable pub names_block : Entry → ℕ → Bool
names_block [] b = false
names_block (w ∷ ws) b = w.0 == b || names_block ws b

-- whether the block of one of the pairs lies in row `r`
unfoldable pub names_row : ℕ → Entry → ℕ → Bool
names_row n [] r = false
names_row n (w ∷ ws) r = home_row n w.0 == r || names_row n ws r

-- one where block `b` lies in row `r`, else zero
unfoldable pub one_in_row : ℕ → ℕ → ℕ → ℕ
one_in_row n b r = if home_row n b == r then 1 else 0

-- how many of the pairs name blocks of row `r`
unfoldable pub count_in_row : ℕ → Entry → ℕ → ℕ
count_in_row n [] r = 0
count_in_row n (w ∷ ws) r = one_in_row n w.0 r + count_in_row n ws r

-- the last pair that names block `b`, by its place among the members
abbrev pub IsLastPair : List Block → ℕ → Entry → Option ℕ → Type 0
IsLastPair bytes b ws None = names_block ws b ≡ false
IsLastPair bytes b ws (Some at) = (at < 8)
    × (names_block ws b ≡ true) × ((x : Block) → last_of b x ws ≡ get_or bytes at zero_block)

-- whether the pairs give the cell of row `r` on disk `d` new bytes: never where that is the row's
-- parity
unfoldable pub is_given : ℕ → Entry → ℕ → ℕ → Bool
is_given n ws r d = not (d == parity_disk n r) && names_block ws (cell_block n r d)

-- the last pair that gives it new bytes
abbrev pub IsGivenBy : List Block → ℕ → Entry → ℕ → ℕ → Option ℕ → Type 0
IsGivenBy bytes n ws r d None = is_given n ws r d ≡ false
IsGivenBy bytes n ws r d (Some at) = (at < 8) × (is_given n ws r d ≡ true)
    × ((x : Block) → last_of (cell_block n r d) x ws ≡ get_or bytes at zero_block)

-- for each cell of the row the last pair that gives it new bytes
abbrev pub AreGivenBy : List Block → ℕ → Entry → ℕ → List (Option ℕ) → Type 0
AreGivenBy bytes n ws r given = (d : ℕ) → d < n → IsGivenBy bytes n ws r d (get_or given d None)

-- whether the write changes the cell: it is given new bytes, or it is the row's parity
unfoldable pub is_changed : ℕ → Entry → ℕ → ℕ → Bool
is_changed n ws r d = d == parity_disk n r || is_given n ws r d

-- the values of a row's cells with the new bytes, and the parity as it was
unfoldable pub given_row : ℕ → Entry → ℕ → (ℕ → Block) → ℕ → Block
given_row n ws r row d =
    if d == parity_disk n r then row d else last_of (cell_block n r d) (row d) ws

-- the parity that the row has with the new bytes: the XOR of all its other cells
unfoldable pub new_parity : ℕ → Entry → ℕ → (ℕ → Block) → Block
new_parity n ws r row = xor_upto (without (given_row n ws r row) (parity_disk n r)) n

-- What the cell on disk `d` brings to the new parity. By one rule these are the values of the cells
-- that do not change and the new bytes; by the other one the old values of those that do and the
-- new bytes.
unfoldable pub parity_part : ℕ → Entry → ℕ → (ℕ → Block) → Bool → ℕ → Block
parity_part n ws r row anew d =
    xor (if (if anew then not (is_changed n ws r d) else is_changed n ws r d)
    then row d else zero_block)
    (if is_given n ws r d then last_of (cell_block n r d) zero_block ws else zero_block)

-- what is kept for disk `d` is block `b`
abbrev pub IsOldOf : List (Option Block) → ℕ → Block → Type 0
IsOldOf kept d b = get_or kept d None ≡ Some b

-- whether what is staged of some cell can depend on its old value: the array is not in its top
-- gear, or a shift fills the region of another one
unfoldable pub has_soft : Meta → Bool
has_soft m = nat_lt m.gear m.setup.geometry.disks || nat_lt 0 m.fill

-- there is room for the old value of each cell, if one can be needed
abbrev pub HasRoom : Meta → List (Option Block) → Type 0
HasRoom m olds = has_soft m ≡ true → length olds ≡ 8

-- the old value of each cell that changes is kept, where what is staged of it depends on that
pub record AreOldRead (m : Meta)
    (s : Desk) (ws : Entry) (r : ℕ) (olds : List (Option Block)) (row : ℕ → Block) : Type 0 where
  pub read : (e : ℕ) → e < m.setup.geometry.disks → is_changed m.setup.geometry.disks ws r e ≡ true
      → needs_old (sees m s) r e ≡ true → IsOldOf olds e (row e)

-- More is staged, and laid over what is seen; each of its targets can be committed.
pub record AddsTargets (m : Meta) (before after : Desk) : Type 0 where
  pub targets : Batch
  pub staged : after.staged ≡ before.staged ++ targets
  pub block : after.block ≡ overlaid_blocks targets before.block
  pub placed : ArePlaced m targets

-- the values of all cells, with those of one row replaced
unfoldable pub with_row : (ℕ → ℕ → Block) → ℕ → (ℕ → Block) → ℕ → ℕ → Block
with_row value r row q e = if q == r then row e else value q e

-- Cells of row `r` are written: where the row's cells had the first values, they have the second
-- ones, and all else is as it was.
pub record TurnsRow
    (m : Meta) (r : ℕ) (before after : Desk) (row row_then : ℕ → Block) : Type 0 where
  pub others : (q e : ℕ)
      → (q ≡ r → e < m.setup.geometry.disks → ⊥) → after.dirty q e ≡ before.dirty q e
  pub bits : AreBits m before.dirty → AreBits m after.dirty
  pub stored : (power : ℕ → Power) (value : ℕ → ℕ → Block) (map : ℕ → Block)
      → StoresCells power m (named_out m.out) before.block before.dirty value map
      → ((e : ℕ) → e < m.setup.geometry.disks → value r e ≡ row e) → StoresCells power m
      (named_out m.out) after.block after.dirty (with_row value r row_then) map

-- What is staged keeps the disks well, and makes this of what each block holds.
pub record StagesBlocks (m : Meta) (before after : Desk) (change : ℕ → Block → Block) : Type 0 where
  pub adds : AddsTargets m before after
  pub kept : (slots : ℕ) (power : ℕ → Power) (size : ℕ → ℕ)
      → IsKeptDesk slots power size m before → IsKeptDesk slots power size m after
  pub blocks : (slots : ℕ) (power : ℕ → Power) (size : ℕ → ℕ) → IsKeptDesk slots power size m before
      → (c : ℕ) → c < array_blocks m.setup.geometry
      → blocks_of (sees m after) c ≡ change c (blocks_of (sees m before) c)

-- Each block that the pairs name has the bytes of the last one that does, and each other block what
-- it held.
abbrev pub StageAll : Meta → Desk → Desk → Entry → Type 0
StageAll m before after ws = StagesBlocks m before after (λ c x. last_of c x ws)

-- the pairs before this one
unfoldable pub pairs_before : Pairs → ℕ → Entry
pairs_before pairs at = take at (numbered_blocks pairs.blocks pairs.bytes)

-- how many pairs name blocks of the row of this one, or none where a pair before it lies in that
-- row
unfoldable pub count_of_new_row : ℕ → Pairs → ℕ → ℕ
count_of_new_row n pairs at =
    let r = home_row n (get_or pairs.blocks at 0) in
    if names_row n (pairs_before pairs at) r then 0 else count_in_row n (pairs_of pairs) r

-- what the write of its row makes of a block, if no pair before it lies in that row
unfoldable pub row_change : ℕ → Pairs → ℕ → ℕ → Block → Block
row_change n pairs at c x =
    let r = home_row n (get_or pairs.blocks at 0) in
    if not (names_row n (pairs_before pairs at) r) && home_row n c == r
    then last_of c x (pairs_of pairs) else x
