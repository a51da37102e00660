-- Bounds that are met: what the planner keeps of those that it has worked out
use Rattle.std.specs.Prelude.{◌≡◌, ◌⊎◌, ℕ, ◌+◌, ◌-◌, ◌<◌, ◌≤◌, List, length, slice_index}
use Rattle.paraid_base.specs.declared.geometry.Geometry.{Geometry}
use Rattle.paraid_base.specs.Regions.{IsGear}
use Rattle.paraid_record.specs.declared.meta.Setup.{Setup}
use Rattle.paraid_schedule.specs.Schedule.{IsSchedule, IsGearStep, GearServes, rise, rises}
use Rattle.paraid_schedule.specs.Cost.{cost_before, schedule_cost}
use Rattle.paraid_schedule.specs.Bounds.{no_bound, row_start, bound, onward, IsRightAt}

-- `after` is the least of `before` and what the permitted steps of a kind cost
pub record IsLeastCostAfter (kind : ℕ → Type 0)
    (s : Setup) (ups : ℕ) (bounds : List ℕ) (t a left before after : ℕ) : Type 0 where
  pub low : after ≤ before
  pub each : (b : ℕ) → kind b → rise a b ≤ left → after ≤ onward s ups bounds t a left b
  pub met : (after ≡ before)
      ⊎ ((b : ℕ) × kind b × (rise a b ≤ left) × (after ≡ onward s ups bounds t a left b))

-- the step to gear `b` costs exactly what the bound says
abbrev pub IsMetBy : Setup → ℕ → List ℕ → ℕ → ℕ → ℕ → ℕ → Type 0
IsMetBy s ups bounds t a left b =
    bound s.geometry ups bounds t a left ≡ onward s ups bounds t a left b

-- the bounds of one period and gear are right, and each is none or what one of the steps costs
pub record IsSolvedAt (s : Setup) (demanded ups : ℕ) (bounds : List ℕ) (t a : ℕ) : Type 0 where
  pub right : IsRightAt s demanded ups bounds t a
  pub met : (left : ℕ) → left ≤ ups → (bound s.geometry ups bounds t a left ≡ no_bound)
      ⊎ ((b : ℕ) × IsGearStep s.geometry a b × (rise a b ≤ left) × IsMetBy s ups bounds t a left b)

-- the bounds of all periods from `from` on are so
abbrev pub AreSolvedFrom : ℕ → Setup → List ℕ → ℕ → List ℕ → Type 0
AreSolvedFrom from s demand ups bounds =
    (t : ℕ) → from ≤ t → t < length demand
    → (a : ℕ) → IsGear s.geometry a → IsSolvedAt s (slice_index demand t) ups bounds t a

-- only bounds of period `t` and gear `a` differ
abbrev pub DifferInRow : Geometry → ℕ → ℕ → ℕ → List ℕ → List ℕ → Type 0
DifferInRow g ups t a old new =
    (k : ℕ) → (k < row_start g ups t a) ⊎ (row_start g ups t a + (ups + 1) ≤ k)
    → slice_index new k ≡ slice_index old k

-- the bounds of one period and gear are lowered to what the permitted steps of a kind cost, and no
-- others differ
pub record AreLoweredBy
    (kind : ℕ → Type 0) (s : Setup) (ups t a : ℕ) (old new : List ℕ) : Type 0 where
  pub least : (left : ℕ) → left ≤ ups → IsLeastCostAfter kind s ups old t a left
      (bound s.geometry ups old t a left) (bound s.geometry ups new t a left)
  pub same : DifferInRow s.geometry ups t a old new
  pub most : (k : ℕ) → slice_index new k ≤ no_bound

-- the bounds of a period
abbrev pub AreSameIn : Geometry → ℕ → ℕ → List ℕ → List ℕ → Type 0
AreSameIn g ups t old new = (a left : ℕ)
    → IsGear g a → left ≤ ups → bound g ups new t a left ≡ bound g ups old t a left

-- The gears chosen so far: they begin a schedule, the last is `gear`, `left` rises are left, and
-- what they cost and the bound from there on are together the bound of the start. No schedule that
-- costs as much as that goes on to a lower gear after the same ones.
pub record IsWalk
    (s : Setup) (demand : List ℕ) (ups : ℕ) (bounds gears : List ℕ) (gear left : ℕ) : Type 0 where
  pub some : 1 ≤ length gears
  pub first : slice_index gears 0 ≡ s.geometry.disks
  pub last : slice_index gears (length gears - 1) ≡ gear
  pub served : (t : ℕ)
      → t < length gears → GearServes s (slice_index demand t) (slice_index gears t)
  pub steps : (t : ℕ) → t + 1 < length gears
      → IsGearStep s.geometry (slice_index gears t) (slice_index gears (t + 1))
  pub risen : rises gears + left ≡ ups
  pub paid : cost_before s gears (length gears - 1)
      + bound s.geometry ups bounds (length gears - 1) gear left
      ≡ bound s.geometry ups bounds 0 s.geometry.disks ups
  pub lowest : (others : List ℕ) (t : ℕ) → IsSchedule s demand ups others
      → schedule_cost s others ≡ bound s.geometry ups bounds 0 s.geometry.disks ups
      → t + 1 < length gears → ((k : ℕ) → k ≤ t → slice_index others k ≡ slice_index gears k)
      → slice_index gears (t + 1) ≤ slice_index others (t + 1)
