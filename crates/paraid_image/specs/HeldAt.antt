-- What every stop at a moment leaves.
use Rattle.std.specs.Prelude.{◌≡◌, ℕ, ◌<◌, ◌≤◌, Option, Some, length}
use Rattle.paraid_base.specs.History.{History}
use Rattle.paraid_rack.specs.Disks.{Disks, IsImage, IsPresent, lose}
use Rattle.paraid_rack.specs.Trail.{Trail, disks}
use Rattle.paraid_image.specs.Out.{IsWeak}
use Rattle.paraid_image.specs.Sides.{LogState}
use Rattle.paraid_image.specs.Sound.{IsSoundAt}
use Rattle.paraid_image.specs.Standing.{Stands}

-- an image holds a first part of `h` that has at least `lo` writes
pub record IsSoundFrom (slots : ℕ) (i : Disks) (h : History) (lo : ℕ) : Type 0 where
  pub k : ℕ
  pub low : lo ≤ k
  pub high : k ≤ length h
  pub sound : IsSoundAt slots i h k

-- disk `d` of the array can be lost from the image: it is there, and no other disk is weak
pub record MayLose (i : Disks) (d : ℕ) : Type 0 where
  pub standing : ℕ
  pub said : LogState
  pub stands : Stands i standing said
  pub disk : d < said.meta.setup.geometry.disks
  pub present : IsPresent i d
  pub weak : (w : ℕ) → IsWeak i w → w ≡ d

-- Each image of these disks holds a first part of `h` of at least `lo` writes, as it is and with
-- one more disk lost. If an image has a weak disk, that is the one that is down.
pub record IsHeld (slots : ℕ) (s : Disks) (h : History) (lo : ℕ) (down : Option ℕ) : Type 0 where
  pub whole : (i : Disks) → IsImage s i → IsSoundFrom slots i h lo
  pub lost : (i : Disks) (d : ℕ) → IsImage s i → MayLose i d → IsSoundFrom slots (lose d i) h lo
  pub weak : (i : Disks) (w : ℕ) → IsImage s i → IsWeak i w → down ≡ Some w

-- the same, at moment `m` of what is told of a rack
abbrev pub IsHeldAt : ℕ → Trail → ℕ → History → ℕ → Option ℕ → Type 0
IsHeldAt slots t m h lo down = IsHeld slots (disks t m) h lo down
