-- Which lists of gears may follow a demand
use Rattle.std.specs.Prelude.{◌≡◌, ◌⊎◌, ℕ, ◌+◌, ◌-◌, ◌*◌, ◌<◌, ◌≤◌, List, length, slice_index, min}
use Rattle.paraid_base.specs.declared.geometry.Geometry.{Geometry}
use Rattle.paraid_base.specs.Sums.{sum_before}
use Rattle.paraid_record.specs.declared.meta.Setup.{Setup}
use Rattle.paraid_record.specs.Range.{AreNextGears}

-- a period has no more reads and writes
abbrev pub demand_most : ℕ
demand_most = 1048576

-- the number of reads and writes of each period: 1 to 1,024 periods
pub record IsDemand (demand : List ℕ) : Type 0 where
  pub some : 1 ≤ length demand
  pub few : length demand ≤ 1024
  pub small : (t : ℕ) → t < length demand → slice_index demand t ≤ demand_most

-- gear `a` serves so much: it is the last gear, or the load stays below that of a shift up
abbrev pub GearServes : Setup → ℕ → ℕ → Type 0
GearServes s demanded a = (a ≡ s.geometry.disks) ⊎ (100 * demanded < s.up * s.service * a)

-- from one period to the next the gear stays, rises to the next gear or falls to the next one
abbrev pub IsGearStep : Geometry → ℕ → ℕ → Type 0
IsGearStep g a b = (b ≡ a) ⊎ AreNextGears g b a ⊎ AreNextGears g a b

-- 1 for a step to a higher gear, and 0 for any other
abbrev pub rise : ℕ → ℕ → ℕ
rise a b = min (b - a) 1

-- how many of the steps before period `t` lead to a higher gear
abbrev pub rises_before : List ℕ → ℕ → ℕ
rises_before gears t = sum_before (λ k. rise (slice_index gears k) (slice_index gears (k + 1))) t

-- how many steps of a list of gears lead to a higher gear
abbrev pub rises : List ℕ → ℕ
rises gears = rises_before gears (length gears - 1)

-- A schedule has one gear for each period. It begins in the last gear and goes by steps, of which
-- at most `ups` lead to a higher gear, and each gear serves its period's demand.
pub record IsSchedule (s : Setup) (demand : List ℕ) (ups : ℕ) (gears : List ℕ) : Type 0 where
  pub periods : length gears ≡ length demand
  pub first : slice_index gears 0 ≡ s.geometry.disks
  pub served : (t : ℕ)
      → t < length gears → GearServes s (slice_index demand t) (slice_index gears t)
  pub steps : (t : ℕ) → t + 1 < length gears
      → IsGearStep s.geometry (slice_index gears t) (slice_index gears (t + 1))
  pub within : rises gears ≤ ups
