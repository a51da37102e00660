-- How many spin-ups a disk may have, and which disks have used up theirs
use Rattle.std.specs.Prelude.{ℕ, ◌+◌, ◌/◌, ◌<◌, ◌≤◌, List, slice_index, min}

-- the spin-ups that a disk may have after so many ticks: `burst` at once and one more for each
-- `period` of them, and never more than the ration
unfoldable pub allowance : ℕ → ℕ → ℕ → ℕ → ℕ
allowance ration burst period ticks = min ration (burst + ticks / period)

-- each disk from `lo` to `hi - 1` has spins below its allowance
pub record IsWithinAllowance (spins : List ℕ) (allowed lo hi : ℕ) : Type 0 where
  pub within : (d : ℕ) → lo ≤ d → d < hi → slice_index spins d < allowed

-- `d` is the least disk from `lo` to `hi - 1` that has used up its allowance
pub record IsFirstUsedUp (spins : List ℕ) (allowed lo hi d : ℕ) : Type 0 where
  pub low : lo ≤ d
  pub high : d < hi
  pub used_up : allowed ≤ slice_index spins d
  pub before : (e : ℕ) → lo ≤ e → e < d → slice_index spins e < allowed
