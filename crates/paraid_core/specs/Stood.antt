-- What stands after a call, and stood before it.
use Rattle.std.specs.Prelude.{◌≡◌, ◌≢◌, ℕ, ◌<◌}
use Rattle.paraid_base.specs.declared.state.Out.TheVariants.{Gone}
use Rattle.paraid_rack.specs.Disks.{Disks, IsImage, IsPresent, is_present}
use Rattle.paraid_image.specs.Looked.{IsLooked}
use Rattle.paraid_image.specs.Out.{IsWeak}
use Rattle.paraid_image.specs.Sides.{LogState}
use Rattle.paraid_image.specs.Standing.{Stands}

-- What stands in image `j` stood so in one that is looked at of disks `s`, with the same disks
-- there, and each but `turned` powered so.
pub record StoodIn
    (s : Disks) (turned : ℕ → Type 0) (j : Disks) (x : ℕ) (said : LogState) : Type 0 where
  pub image : Disks
  pub looked : IsLooked s image
  pub stands : Stands image x said
  pub there : (d : ℕ) → is_present (image.power d) ≡ is_present (j.power d)
  pub power : (d : ℕ) → (turned d → ⊥) → image.power d ≡ j.power d

-- Disk `d` can fail: it is there and of the array by all that stands, and no other disk is weak.
pub record CanFail (s : Disks) (d : ℕ) : Type 0 where
  pub present : IsPresent s d
  pub within : (i : Disks) (x : ℕ) (said : LogState)
      → IsLooked s i → Stands i x said → d < said.meta.setup.geometry.disks
  pub alone : (i : Disks) (w : ℕ) → IsImage s i → IsWeak i w → w ≡ d

-- What stands in image `j` stood so in an image of disks `s`, with each disk but `d` powered so,
-- and it says that `d` is gone.
pub record StoodBeside (s : Disks) (d : ℕ) (j : Disks) (x : ℕ) (said : LogState) : Type 0 where
  pub image : Disks
  pub is : IsImage s image
  pub stands : Stands image x said
  pub gone : said.meta.out ≡ Gone d
  pub power : (y : ℕ) → y ≢ d → image.power y ≡ j.power y
