-- Where the value of a cell lives.
use Rattle.std.specs.Prelude.{ℕ, ◌%◌, ◌==◌, ◌&&◌, ◌||◌, nat_lt, Bool, not, Option, slice_index, if◌then◌else◌}
use Rattle.std.specs.Int.{bit_at}
use Rattle.paraid_base.specs.declared.block.Block.{Block}
use Rattle.paraid_base.specs.declared.geometry.Geometry.{Geometry}
use Rattle.paraid_base.specs.Regions.{hard_place_of, map_place_of, soft_place_of}
pub use Rattle.paraid_base.specs.States.{rising_to}
use Rattle.paraid_base.specs.Soft.{soft_disk, soft_stripe}
use Rattle.paraid_record.specs.declared.meta.Meta.{Meta}
use Rattle.paraid_image.specs.Out.{is_out}
use Rattle.paraid_image.specs.Standing.{Contents}

-- what the values of cells depend on: the meta, the dirty bits by row and disk, the out disk and
-- the blocks past the log
pub record View : Type 0 where
  pub meta : Meta
  pub dirty : ℕ → ℕ → Bool
  pub out : Option ℕ
  pub block : Contents

-- the dirty map that is looked at: that of the lower log disk which is not out
abbrev pub map_disk : Option ℕ → ℕ
map_disk out = if is_out out 0 then 1 else 0

-- the dirty bit of the cell of row `r` and disk `d`, in the map of one disk
unfoldable pub map_bit : Geometry → (ℕ → Block) → ℕ → ℕ → Bool
map_bit g blocks r d = bit_at (slice_index (blocks (map_place_of g r)).bytes (r % 512)) d == 1

-- whether the value of a cell lives on its hard place; else it lives in its copy
unfoldable pub is_hard : View → ℕ → ℕ → Bool
is_hard v r d = nat_lt d v.meta.gear || (nat_lt d (rising_to v.meta.phase) && not (v.dirty r d))

-- a place of a disk
pub record Spot : Type 0 where
  pub disk : ℕ
  pub place : ℕ

-- the hard place of a cell as a spot
abbrev pub hard_spot : Geometry → ℕ → ℕ → Spot
hard_spot g r d = record { disk = d; place = hard_place_of g r }

-- the copy of a cell in the region of gear `a`
abbrev pub soft_spot : Geometry → ℕ → ℕ → ℕ → Spot
soft_spot g a r d =
    record { disk = soft_disk g.disks a r d; place = soft_place_of g a (soft_stripe g.disks a r d) }

-- where the value of the cell of row `r` and disk `d` lives
unfoldable pub spot_of : View → ℕ → ℕ → Spot
spot_of v r d = if is_hard v r d
    then hard_spot v.meta.setup.geometry r d else soft_spot v.meta.setup.geometry v.meta.gear r d
