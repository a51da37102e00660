-- Units of the disk that is rebuilt, copied past the log.
use Rattle.std.specs.Prelude.{◌≡◌, ℕ, ◌+◌, ◌<◌, Bool, List, [], Option, if◌then◌else◌, nat_lt}
use Rattle.paraid_base.specs.declared.block.Block.{Block}
use Rattle.paraid_base.specs.declared.state.Out.TheVariants.{Fresh}
use Rattle.paraid_base.specs.History.{History}
use Rattle.paraid_base.specs.Log.{map_block_place}
use Rattle.paraid_base.specs.Regions.{hard_place_of, map_count, soft_place_of}
use Rattle.paraid_base.specs.Soft.{stripe_count}
use Rattle.paraid_base.specs.States.{rebuilt_count}
use Rattle.paraid_image.specs.Content.{view_by}
use Rattle.paraid_image.specs.Sound.{AreRebuilt, IsFresh}
use Rattle.paraid_image.specs.Spot.{View}
use Rattle.paraid_image.specs.Standing.{contents, other_log}
use Rattle.paraid_image.specs.Value.{stripe_rest, value}
use Rattle.paraid_rack.specs.Disks.{Disks}
use Rattle.paraid_rack.specs.Told.{CrashTriple, Ran}
use Rattle.paraid_rack.specs.Trail.{Trail}
use Rattle.paraid_record.specs.declared.meta.Meta.{Meta}
use Rattle.paraid_txn.specs.Stores.{named_of, store_rack}
use Rattle.paraid_core.specs.declared.staged.Core.{Core}
use Rattle.paraid_core.specs.declared.units.RebuildUnit.{RebuildUnit}
use Rattle.paraid_core.specs.declared.units.RebuildUnit.TheVariants.{Row, Stripe, MapBlock}
use Rattle.paraid_core.specs.CoreInvariant.{HoldsBetweenCalls}
use Rattle.paraid_core.specs.Cores.{IsCoreHeldSinceCommit}
use Rattle.paraid_core.specs.Fills.{IsShiftCommitted}

-- disk `d` is being rebuilt
abbrev pub IsRebuilding : Meta → ℕ → Type 0
IsRebuilding m d = m.out ≡ Fresh d (rebuilt_count m.out)

-- Unit `number` of a rebuild of disk `d` is this one: the rows come first, then for a disk below
-- the gear the stripes, then for a log disk the blocks of the dirty map.
abbrev pub IsUnitNumber : Meta → ℕ → ℕ → RebuildUnit → Type 0
IsUnitNumber m d number (Row r) = (r < m.setup.geometry.rows) × (number ≡ r)
IsUnitNumber m d number (Stripe s) =
    (d < m.gear) × ((s < stripe_count m.setup.geometry.disks m.setup.geometry.rows m.gear)
    × (number ≡ m.setup.geometry.rows + s))
IsUnitNumber m d number (MapBlock j) = (d < 2)
    × ((j < map_count m.setup.geometry) × (number ≡ m.setup.geometry.rows + (if nat_lt d m.gear
    then stripe_count m.setup.geometry.disks m.setup.geometry.rows m.gear else 0) + j))

-- the place of a unit on its disk
abbrev pub rebuilt_place : Meta → RebuildUnit → ℕ
rebuilt_place m (Row r) = hard_place_of m.setup.geometry r
rebuilt_place m (Stripe s) = soft_place_of m.setup.geometry m.gear s
rebuilt_place m (MapBlock j) = map_block_place m.setup.geometry j

-- what a unit of disk `d` stores: the value of its cell, the XOR of the stripe's other blocks, or
-- what the other log disk stores
abbrev pub rebuilt_block : View → ℕ → RebuildUnit → Block
rebuilt_block v d (Row r) = value v r d
rebuilt_block v d (Stripe s) = stripe_rest v.meta.setup.geometry v.block v.meta.gear s d
rebuilt_block v d (MapBlock j) = v.block (other_log d) (map_block_place v.meta.setup.geometry j)

-- What the disks hold while units are copied: nothing is staged over the last commit, and the first
-- `end` units of the disk that is rebuilt store what they should.
pub record KeepsRebuilt (slots : ℕ) (named : Option ℕ) (m : Meta) (table : List (List Bool))
    (copied : List Bool) (h : History) (lo : ℕ) (end : ℕ) (s : Disks) : Type 0 where
  pub keeps : HoldsBetweenCalls slots named m table [] copied h lo s
  pub shift : IsShiftCommitted keeps.base m
  pub rebuilt : (d units : ℕ)
      → IsFresh s.power m d units → AreRebuilt (view_by m s.power (contents s [])) d end

-- The block is what one more unit of disk `d` stores.
pub record IsCopyingUnit (slots : ℕ)
    (named : Option ℕ) (m : Meta) (table : List (List Bool)) (copied : List Bool) (h : History)
    (lo : ℕ) (number d : ℕ) (unit : RebuildUnit) (block : Block) (s : Disks) : Type 0 where
  pub before : KeepsRebuilt slots named m table copied h lo number s
  pub is : block ≡ rebuilt_block (view_by m s.power (contents s [])) d unit

-- the same of a core
abbrev pub UnitsRebuilt : {R : Type 0} {g : _}
    → (R → ℕ) → Core R g → History → ℕ → ℕ → Disks → Type 0
UnitsRebuilt count core h lo end = KeepsRebuilt
    (count (store_rack core.store)) (named_of core.store) core.meta core.dirty core.copied h lo end

-- the block is what one more unit of the disk stores, of a core
abbrev pub CopyingUnit : {R : Type 0} {g : _}
    → (R → ℕ) → Core R g → History → ℕ → ℕ → ℕ → RebuildUnit → Block → Disks → Type 0
CopyingUnit count core h lo number d unit block = IsCopyingUnit (count (store_rack core.store))
    (named_of core.store) core.meta core.dirty core.copied h lo number d unit block

-- Where a disk is being rebuilt then, the meta is as it was, and the units that were copied are so
-- still.
abbrev pub StaysRebuilt : {R : Type 0} {g : _}
    → (R → ℕ) → (R → Option Trail) → Core R g → Core R g → Type 0
StaysRebuilt count told old new = (d units : ℕ) → new.meta.out ≡ Fresh d units
    → (new.meta ≡ old.meta) × ((h : History) (lo end : ℕ) → Ran (told (store_rack old.store))
    (told (store_rack new.store)) (CrashTriple (IsCoreHeldSinceCommit count old h lo)
    (UnitsRebuilt count old h lo end) (UnitsRebuilt count new h lo end)))
