-- Where a run begins.
use Rattle.std.specs.Prelude.{◌≡◌, ℕ, Option, Some}
use Rattle.paraid_base.specs.History.{History}
use Rattle.paraid_rack.specs.Disks.{Disks, IsImage}
use Rattle.paraid_image.specs.HeldAt.{IsHeld}
use Rattle.paraid_image.specs.Out.{IsWeak}
use Rattle.paraid_image.specs.Rest.{AreSynced}

-- A run may start here. Nothing is loose. Each stop leaves a first part of `h`, of at least `lo`
-- writes. If a disk is down, it is the weak one of each image.
pub record IsRunStart
    (slots : ℕ) (s : Disks) (h : History) (lo : ℕ) (down : Option ℕ) : Type 0 where
  pub synced : AreSynced s
  pub held : IsHeld slots s h lo down
  pub weak : (i : Disks) (w : ℕ) → IsImage s i → down ≡ Some w → IsWeak i w
