-- Places past the log on whose bytes no value depends.
use Rattle.std.specs.Prelude.{◌≡◌, ◌≢◌, ℕ, ◌+◌, ◌<◌, ◌≤◌, ◌⊎◌, true, false, Some}
use Rattle.paraid_base.specs.declared.state.Out.TheVariants.{Gone, Fresh}
use Rattle.paraid_base.specs.declared.state.Phase.{Phase}
use Rattle.paraid_base.specs.declared.state.Phase.TheVariants.{Down, Up}
use Rattle.paraid_base.specs.Log.{map_block_place, map_start}
use Rattle.paraid_base.specs.Regions.{hard_place_of, map_count, soft_place_of}
use Rattle.paraid_base.specs.Soft.{stripe_count}
use Rattle.paraid_rack.specs.Disks.{Disks}
use Rattle.paraid_image.specs.Content.{view_of}
use Rattle.paraid_image.specs.Neutral.{IsNeutral}
use Rattle.paraid_image.specs.Out.{named_out}
use Rattle.paraid_image.specs.Sides.{LogState, Says}
use Rattle.paraid_image.specs.Sound.{stripes_on}
use Rattle.paraid_image.specs.Spot.{View}
use Rattle.paraid_image.specs.Standing.{Stands}

-- a shift to gear `to` is under way
abbrev pub IsShiftTo : Phase → ℕ → Type 0
IsShiftTo phase to = (phase ≡ Down to) ⊎ (phase ≡ Up to)

-- place `p` of disk `d` is free, whatever it holds
pub data IsFree (v : View) (d p : ℕ) : Type 0 where
  -- the hard place of a dirty cell, whose value lives in its copy
  dirty_cell : (r : ℕ) → r < v.meta.setup.geometry.rows → v.meta.gear ≤ d → v.dirty r d ≡ true
      → p ≡ hard_place_of v.meta.setup.geometry r → IsFree v d p
  -- a stripe of the new gear that is not filled yet
  unfilled : (to s : ℕ) → IsShiftTo v.meta.phase to → v.meta.fill ≤ s
      → s < stripe_count v.meta.setup.geometry.disks v.meta.setup.geometry.rows to
      → p ≡ soft_place_of v.meta.setup.geometry to s → IsFree v d p
  -- any place past the log of a disk that is gone
  gone : v.meta.out ≡ Gone d → map_start v.meta.setup.geometry ≤ p → IsFree v d p
  -- a unit of the disk that is being rebuilt, which is not rebuilt yet
  row : (rebuilt r : ℕ) → v.meta.out ≡ Fresh d rebuilt → rebuilt ≤ r
      → r < v.meta.setup.geometry.rows → p ≡ hard_place_of v.meta.setup.geometry r → IsFree v d p
  stripe : (rebuilt s : ℕ) → v.meta.out ≡ Fresh d rebuilt → rebuilt ≤ v.meta.setup.geometry.rows + s
      → s < stripes_on v d → p ≡ soft_place_of v.meta.setup.geometry v.meta.gear s → IsFree v d p
  map_block : (rebuilt j : ℕ) → v.meta.out ≡ Fresh d rebuilt → j < map_count v.meta.setup.geometry
      → rebuilt ≤ v.meta.setup.geometry.rows + stripes_on v d + j
      → p ≡ map_block_place v.meta.setup.geometry j → IsFree v d p

-- the gates of the log disks that are not out are closed
pub record AreSidesClosed (i : Disks) (said : LogState) : Type 0 where
  pub closed : (y : ℕ) (other : LogState)
      → y < 2 → Says i y other → named_out said.meta.out ≢ Some y → other.opened ≡ false

-- place `p` of disk `d` is not seen: it is neutral, or it is free while the gates are closed
pub data IsUnseen (i : Disks) (d p : ℕ) : Type 0 where
  neutral : IsNeutral i d p → IsUnseen i d p
  free : (x : ℕ) (said : LogState)
      → Stands i x said → AreSidesClosed i said → IsFree (view_of i said) d p → IsUnseen i d p
