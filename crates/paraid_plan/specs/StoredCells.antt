-- What the disks store, with the blocks of the out disk as they ought to be.
use Rattle.std.specs.Prelude.{◌≡◌, ◌≢◌, ℕ, ◌+◌, ◌-◌, ◌*◌, ◌<◌, ◌≤◌, ◌&&◌, ◌||◌, nat_lt, Bool, true, false, not, Option, Some}
use Rattle.paraid_base.specs.declared.block.Block.{Block}
use Rattle.paraid_base.specs.Log.{log_least, map_block_place}
use Rattle.paraid_base.specs.Regions.{disk_size, hard_place_of, map_count, soft_place_of}
use Rattle.paraid_base.specs.Skips.{skip}
use Rattle.paraid_base.specs.Soft.{soft_disk, soft_parity_disk, soft_stripe}
use Rattle.paraid_base.specs.Sums.{xor_upto}
use Rattle.paraid_base.specs.Xor.{zero_block}
use Rattle.paraid_layout.specs.Pads.{IsPad}
use Rattle.paraid_plan.specs.WriteTargets.{soft_count}
use Rattle.paraid_rack.specs.declared.call.Power.{Power}
use Rattle.paraid_record.specs.declared.meta.Meta.{Meta}
use Rattle.paraid_record.specs.Codes.{phase_to}
use Rattle.paraid_record.specs.Range.{IsInRange}
use Rattle.paraid_image.specs.Out.{named_out}
use Rattle.paraid_image.specs.Sound.{AreDisks, IsFresh, IsWellKept}
use Rattle.paraid_image.specs.Spot.{View, map_disk, rising_to}
use Rattle.paraid_image.specs.Standing.{Contents}
use Rattle.paraid_image.specs.Value.{value}

-- unit `u` of disk `d` is kept: the disk is not out, or that unit of it is rebuilt
pub data IsUnitKept (power : ℕ → Power) (m : Meta) (out : Option ℕ) (d u : ℕ) : Type 0 where
  there : out ≢ Some d → IsUnitKept power m out d u
  rebuilt : (count : ℕ) → IsFresh power m d count → u < count → IsUnitKept power m out d u

-- whether the value of a cell with this dirty bit lives on its hard place
unfoldable pub hard_at : Meta → Bool → ℕ → Bool
hard_at m bit d = nat_lt d m.gear || (nat_lt d (rising_to m.phase) && not bit)

-- the places that are kept hold these blocks
pub record Lies (power : ℕ → Power) (m : Meta) (out : Option ℕ)
    (block : Contents) (hard soft filled : ℕ → ℕ → Block) (map : ℕ → Block) : Type 0 where
  pub hard_blocks : (r d : ℕ) → r < m.setup.geometry.rows → d < m.setup.geometry.disks
      → IsUnitKept power m out d r → block d (hard_place_of m.setup.geometry r) ≡ hard r d
  pub soft_blocks : (s e : ℕ)
      → s < soft_count m → e < m.gear → IsUnitKept power m out e (m.setup.geometry.rows + s)
      → block e (soft_place_of m.setup.geometry m.gear s) ≡ soft s e
  pub filled_blocks : (s e : ℕ) → s < m.fill → e < phase_to m.phase
      → block e (soft_place_of m.setup.geometry (phase_to m.phase) s) ≡ filled s e
  pub map_blocks : (j x : ℕ) → j < map_count m.setup.geometry
      → x < 2 → IsUnitKept power m out x (m.setup.geometry.rows + soft_count m + j)
      → block x (map_block_place m.setup.geometry j) ≡ map j

-- the first stripes of region `b` store the values of the cells that are here, and sum to zero
pub record AreStripes
    (n rows b count : ℕ) (here : ℕ → ℕ → Bool) (value stripe : ℕ → ℕ → Block) : Type 0 where
  pub cells : (r d : ℕ) → r < rows → b ≤ d → d < n → soft_stripe n b r d < count → here r d ≡ true
      → stripe (soft_stripe n b r d) (soft_disk n b r d) ≡ value r d
  pub sums : (s : ℕ) → s < count → xor_upto (stripe s) b ≡ zero_block

-- the pads of stripes hold zeros
pub record ArePads (n rows b count : ℕ) (stripe : ℕ → ℕ → Block) : Type 0 where
  pub zeros : (s at : ℕ) → s < count
      → at < b - 1 → IsPad n rows b s at → stripe s (skip (soft_parity_disk b s) at) ≡ zero_block

-- The disks store cells of these values and this map.
pub record StoresCells (power : ℕ → Power) (m : Meta) (out : Option ℕ) (block : Contents)
    (dirty : ℕ → ℕ → Bool) (value : ℕ → ℕ → Block) (map : ℕ → Block) : Type 0 where
  pub hard : ℕ → ℕ → Block
  pub soft : ℕ → ℕ → Block
  pub filled : ℕ → ℕ → Block
  pub lies : Lies power m out block hard soft filled map
  pub clean : (r d : ℕ) → r < m.setup.geometry.rows
      → d < m.setup.geometry.disks → dirty r d ≡ false → hard r d ≡ value r d
  pub copies : AreStripes m.setup.geometry.disks m.setup.geometry.rows m.gear (soft_count m) (λ r d.
      not (hard_at m (dirty r d) d)) value soft
  pub fills : AreStripes m.setup.geometry.disks m.setup.geometry.rows
      (phase_to m.phase) m.fill (λ r d. true) value filled
  pub pads : ArePads m.setup.geometry.disks m.setup.geometry.rows (phase_to m.phase) m.fill filled

-- dirty cells are cells of disks from the gear on
pub record AreBits (m : Meta) (dirty : ℕ → ℕ → Bool) : Type 0 where
  pub rows : (r d : ℕ)
      → r < 512 * map_count m.setup.geometry → dirty r d ≡ true → r < m.setup.geometry.rows
  pub parked : (r d : ℕ) → r < 512 * map_count m.setup.geometry → dirty r d ≡ true → m.gear ≤ d
  pub disks : (r d : ℕ)
      → r < 512 * map_count m.setup.geometry → dirty r d ≡ true → d < m.setup.geometry.disks

-- the map that is looked at
abbrev pub map_of : View → ℕ → Block
map_of v j = v.block (map_disk v.out) (map_block_place v.meta.setup.geometry j)

-- Disks that are kept well store the values of their cells.
abbrev pub KeptIsStored : Type 0
KeptIsStored = (slots : ℕ) (power : ℕ → Power) (size : ℕ → ℕ) (v : View)
    → IsInRange v.meta → v.out ≡ named_out v.meta.out → IsWellKept slots power size v
    → StoresCells power v.meta v.out v.block v.dirty (value v) (map_of v)

-- the values of each row sum to zero
abbrev pub SumToZero : Meta → (ℕ → ℕ → Block) → Type 0
SumToZero m value = (r : ℕ)
    → r < m.setup.geometry.rows → xor_upto (value r) m.setup.geometry.disks ≡ zero_block

-- Disks that store cells of these values, whose rows sum to zero, are kept well, and each cell has
-- its value.
abbrev pub StoredIsKept : Type 0
StoredIsKept = (slots : ℕ)
    (power : ℕ → Power) (size : ℕ → ℕ) (v : View) (values : ℕ → ℕ → Block) (map : ℕ → Block)
    → IsInRange v.meta → v.out ≡ named_out v.meta.out
    → StoresCells power v.meta v.out v.block v.dirty values map
    → SumToZero v.meta values → AreBits v.meta v.dirty
    → AreDisks slots power size v.meta v.out
    → IsWellKept slots power size v
    × ((r d : ℕ) → r < v.meta.setup.geometry.rows → d < v.meta.setup.geometry.disks
    → value v r d ≡ values r d)

-- these blocks are the same at each place that is kept
abbrev pub AgreeWhereKept : (ℕ → Power) → Meta → Option ℕ → Contents → Contents → Type 0
AgreeWhereKept power m out block after = (d u p : ℕ)
    → d < m.setup.geometry.disks → IsUnitKept power m out d u
    → log_least ≤ p → p < disk_size m.setup.geometry → after d p ≡ block d p

-- Whether disks are kept well, and which values they hold, is told by the places that are kept
-- alone.
abbrev pub KeptPlacesTell : Type 0
KeptPlacesTell = (slots : ℕ) (power : ℕ → Power) (size : ℕ → ℕ) (v : View) (after : Contents)
    → IsInRange v.meta → v.out ≡ named_out v.meta.out
    → IsWellKept slots power size v → AgreeWhereKept power v.meta v.out v.block after
    → IsWellKept slots power size (record v { block = after })
    × ((r d : ℕ) → r < v.meta.setup.geometry.rows
    → d < v.meta.setup.geometry.disks → value (record v { block = after }) r d ≡ value v r d)
