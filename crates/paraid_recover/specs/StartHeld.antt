-- What is held while a mount is made, by the disks that are absent.
use Rattle.std.specs.Prelude.{◌≡◌, ℕ, ◌<◌, ◌≤◌, false, List, Option, Some, take}
use Rattle.paraid_base.specs.History.{History}
use Rattle.paraid_rack.specs.declared.call.Call.{Call}
use Rattle.paraid_rack.specs.Disks.{Disks, is_present}
use Rattle.paraid_rack.specs.Trail.{run}
use Rattle.paraid_image.specs.HeldAt.{IsHeld}
use Rattle.paraid_image.specs.Out.{IsWeak}

-- Of `n` disks this one is down in the first `k` of these calls: it is each that was absent.
abbrev pub IsAbsentUpTo : ℕ → Disks → List Call → ℕ → Option ℕ → Type 0
IsAbsentUpTo n s calls k down = (j d : ℕ)
    → j ≤ k → d < n → is_present ((run s (take j calls)).power d) ≡ false → down ≡ Some d

-- After the first `k` of these calls what was held is held, where one disk at most was absent since
-- or was weak before them.
pub record HoldsAfter
    (slots n : ℕ) (s : Disks) (h : History) (lo : ℕ) (calls : List Call) (k : ℕ) : Type 0 where
  pub held : (down : Option ℕ) → IsAbsentUpTo n s calls k down
      → ((w : ℕ) → IsWeak s w → down ≡ Some w) → IsHeld slots (run s (take k calls)) h lo down
