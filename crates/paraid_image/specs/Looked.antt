-- The images that are looked at.
use Rattle.std.specs.Prelude.{◌≡◌, ℕ, Option, Some}
use Rattle.paraid_base.specs.History.{History}
use Rattle.paraid_rack.specs.Disks.{Disks, IsImage, lose}
use Rattle.paraid_image.specs.HeldAt.{IsSoundFrom, MayLose}
use Rattle.paraid_image.specs.Out.{IsWeak}

-- Disks `j` are looked at: they are what a stop leaves, or that with one more disk lost that may be
-- lost.
pub data IsLooked (s j : Disks) : Type 0 where
  whole : IsImage s j → IsLooked s j
  lost : (i : Disks) (d : ℕ) → IsImage s i → MayLose i d → lose d i ≡ j → IsLooked s j

-- Each image that is looked at holds a first part of `h` of at least `lo` writes; before a disk is
-- lost, a weak disk is the one that is down.
pub record IsHeldLooked
    (slots : ℕ) (s : Disks) (h : History) (lo : ℕ) (down : Option ℕ) : Type 0 where
  pub looked : (j : Disks) → IsLooked s j → IsSoundFrom slots j h lo
  pub weak : (i : Disks) (w : ℕ) → IsImage s i → IsWeak i w → down ≡ Some w
