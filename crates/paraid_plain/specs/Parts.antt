-- The parts of what is asked of an image, at one row, stripe, unit or disk.
use Rattle.std.specs.Prelude.{◌≡◌, ◌≢◌, ℕ, ◌+◌, ◌-◌, ◌<◌, ◌≤◌, true, false, Option, Some, slice_index}
use Rattle.paraid_base.specs.declared.state.Phase.TheVariants.{Up}
use Rattle.paraid_base.specs.Log.{map_block_place}
use Rattle.paraid_base.specs.Regions.{disk_size, hard_place_of}
use Rattle.paraid_base.specs.Skips.{skip}
use Rattle.paraid_base.specs.Soft.{soft_disk, soft_parity_disk, soft_stripe}
use Rattle.paraid_base.specs.Xor.{zero_block}
use Rattle.paraid_layout.specs.Pads.{IsPad}
use Rattle.paraid_rack.specs.declared.call.Power.{Power}
use Rattle.paraid_rack.specs.declared.call.Power.TheVariants.{Parked, Spinning}
use Rattle.paraid_rack.specs.Disks.{Disks, is_present}
use Rattle.paraid_record.specs.declared.meta.Meta.{Meta}
use Rattle.paraid_image.specs.Sound.{AreRebuilt, IsFresh, stripes_on}
use Rattle.paraid_image.specs.Spot.{View}
use Rattle.paraid_image.specs.Standing.{other_log}
use Rattle.paraid_image.specs.Value.{stripe, stripe_rest, value}

-- where the cell of row `r` and disk `d` is of stripe `s` of gear `a`, the stripe stores its value
abbrev pub IsCopied : View → ℕ → ℕ → ℕ → ℕ → Type 0
IsCopied v a s r d = soft_stripe v.meta.setup.geometry.disks a r d ≡ s
    → stripe v.meta.setup.geometry v.block a s (soft_disk v.meta.setup.geometry.disks a r d)
    ≡ value v r d

-- the stripe stores the values of its cells of row `r`
abbrev pub AreCopied : View → ℕ → ℕ → ℕ → Type 0
AreCopied v a s r = (d : ℕ) → a ≤ d → d < v.meta.setup.geometry.disks → IsCopied v a s r d

-- where index `at` of the stripe is a pad, it is zeros
abbrev pub IsPadZero : View → ℕ → ℕ → ℕ → Type 0
IsPadZero v a s at = IsPad v.meta.setup.geometry.disks v.meta.setup.geometry.rows a s at
    → stripe v.meta.setup.geometry v.block a s (skip (soft_parity_disk a s) at) ≡ zero_block

-- the pads of a stripe hold zeros
abbrev pub ArePadsZero : View → ℕ → ℕ → Type 0
ArePadsZero v a s = (at : ℕ) → at < a - 1 → IsPadZero v a s at

-- where the cell of row `r` and disk `d` is clean and its disk is not out, its hard place has its
-- value
abbrev pub IsCleanStored : View → ℕ → ℕ → Type 0
IsCleanStored v r d = v.out ≢ Some d
    → v.dirty r d ≡ false → v.block d (hard_place_of v.meta.setup.geometry r) ≡ value v r d

-- the same, of each disk from the gear on
abbrev pub AreRowCleanStored : View → ℕ → Type 0
AreRowCleanStored v r = (d : ℕ)
    → v.meta.gear ≤ d → d < v.meta.setup.geometry.disks → IsCleanStored v r d

-- row `r` of a disk that is being rebuilt, if it is rebuilt: its value is stored, unless the cell
-- is a dirty one of a parked disk
abbrev pub IsRowRebuilt : View → ℕ → ℕ → ℕ → Type 0
IsRowRebuilt v d rebuilt r = r < rebuilt → (v.meta.gear ≤ d → v.dirty r d ≡ false)
    → v.block d (hard_place_of v.meta.setup.geometry r) ≡ value v r d

-- stripe `s` of such a disk, if it is rebuilt
abbrev pub IsStripeRebuilt : View → ℕ → ℕ → ℕ → Type 0
IsStripeRebuilt v d rebuilt s = v.meta.setup.geometry.rows + s < rebuilt
    → stripe v.meta.setup.geometry v.block v.meta.gear s d
    ≡ stripe_rest v.meta.setup.geometry v.block v.meta.gear s d

-- block `j` of the dirty map of such a disk, if it is rebuilt
abbrev pub IsMapRebuilt : View → ℕ → ℕ → ℕ → Type 0
IsMapRebuilt v d rebuilt j = v.meta.setup.geometry.rows + stripes_on v d + j < rebuilt
    → v.block d (map_block_place v.meta.setup.geometry j)
    ≡ v.block (other_log d) (map_block_place v.meta.setup.geometry j)

-- all of what a disk that is being rebuilt stores
abbrev pub IsFreshRebuilt : (ℕ → Power) → View → Type 0
IsFreshRebuilt power v = (d rebuilt : ℕ) → IsFresh power v.meta d rebuilt → AreRebuilt v d rebuilt

-- a dirty bit is of a row, and of a disk from the gear on
abbrev pub IsBitOfCell : View → ℕ → ℕ → Type 0
IsBitOfCell v r d = v.dirty r d ≡ true
    → (r < v.meta.setup.geometry.rows) × (v.meta.gear ≤ d) × (d < v.meta.setup.geometry.disks)

-- disk `d` has the blocks that each disk of the array needs, if it is there and not out
abbrev pub IsLarge : Disks → Meta → Option ℕ → ℕ → Type 0
IsLarge i m out d = is_present (i.power d) ≡ true
    → out ≢ Some d → disk_size m.setup.geometry ≤ i.size d

-- each disk is large enough
abbrev pub AreDisksLarge : Disks → Meta → Option ℕ → Type 0
AreDisksLarge i m out = (d : ℕ) → d < m.setup.geometry.disks → IsLarge i m out d

-- disk `d` spins, if it is not out
abbrev pub IsSpinning : (ℕ → Power) → Option ℕ → ℕ → Type 0
IsSpinning power out d = out ≢ Some d → power d ≡ Spinning

-- each disk below the gear spins
abbrev pub AreSpinning : (ℕ → Power) → Meta → Option ℕ → Type 0
AreSpinning power m out = (d : ℕ) → d < m.gear → IsSpinning power out d

-- the disk that is being rebuilt is large enough and spins
abbrev pub IsFreshReady : Disks → Meta → Type 0
IsFreshReady i m = (d rebuilt : ℕ)
    → IsFresh i.power m d rebuilt → (disk_size m.setup.geometry ≤ i.size d) × (i.power d ≡ Spinning)

-- disk `d` has its spin-up recorded, if it is parked and not out
abbrev pub IsRecorded : (ℕ → Power) → Meta → Option ℕ → ℕ → Type 0
IsRecorded power m out d = power d ≡ Parked → out ≢ Some d → 1 ≤ slice_index m.spins d

-- each disk that a shift up has still to spin up has that recorded
abbrev pub AreRecorded : (ℕ → Power) → Meta → Option ℕ → Type 0
AreRecorded power m out = (to d : ℕ)
    → m.phase ≡ Up to → m.gear ≤ d → d < to → IsRecorded power m out d
