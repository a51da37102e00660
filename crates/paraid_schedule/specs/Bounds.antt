-- Bounds that certify a cost: what no way on from a period, a gear and the rises left goes below
use Rattle.std.specs.Prelude.{◌≡◌, ℕ, ◌+◌, ◌-◌, ◌*◌, ◌^◌, ◌<◌, ◌≤◌, List, length, slice_index, slice_index_or, if◌then◌else◌, false}
use Rattle.paraid_base.specs.declared.geometry.Geometry.{Geometry}
use Rattle.paraid_base.specs.Regions.{IsGear}
use Rattle.paraid_base.specs.Sums.{sum_before}
use Rattle.paraid_record.specs.declared.meta.Setup.{Setup}
use Rattle.paraid_schedule.specs.Schedule.{GearServes, IsGearStep, rise}
use Rattle.paraid_schedule.specs.Cost.{period_cost, step_cost}

-- the bound that stands for none: from here no schedule goes on
abbrev pub no_bound : ℕ
no_bound = 2 ^ 62

-- how many gears are below `a`
unfoldable pub rank : Geometry → ℕ → ℕ
rank g a = sum_before (λ e. if slice_index_or g.gears e false then 1 else 0) a

-- how many gears there are
unfoldable pub gear_count : Geometry → ℕ
gear_count g = rank g (g.disks + 1)

-- Bounds stand by period, then by gear, then by the rises left, from 0 to `ups`. This is where
-- those of period `t` and gear `a` begin.
unfoldable pub row_start : Geometry → ℕ → ℕ → ℕ → ℕ
row_start g ups t a = (t * gear_count g + rank g a) * (ups + 1)

-- the number of bounds, for the periods from 0 to `periods`
unfoldable pub bound_count : Geometry → ℕ → ℕ → ℕ
bound_count g ups periods = (periods + 1) * gear_count g * (ups + 1)

-- the bound of period `t`, gear `a` and `left` rises left
abbrev pub bound : Geometry → ℕ → List ℕ → ℕ → ℕ → ℕ → ℕ
bound g ups bounds t a left = slice_index bounds (row_start g ups t a + left)

-- what it costs at least to go on from period `t` in gear `a` by a step to gear `b`
abbrev pub onward : Setup → ℕ → List ℕ → ℕ → ℕ → ℕ → ℕ → ℕ
onward s ups bounds t a left b =
    period_cost s a + step_cost s a b + bound s.geometry ups bounds (t + 1) b (left - rise a b)

-- The bounds of period `t` and gear `a` and those of the next period are there, and no bound is
-- above `no_bound`.
pub record HasRow (g : Geometry) (ups : ℕ) (bounds : List ℕ) (t a : ℕ) : Type 0 where
  pub few : ups ≤ 256
  pub period : t < 1024
  pub gear : IsGear g a
  pub room : bound_count g ups (t + 1) ≤ length bounds
  pub most : (k : ℕ) → slice_index bounds k ≤ no_bound

-- the bounds of one period and gear: none where the gear does not serve the demand, and else at
-- most what each step costs that the rises left permit
pub record IsRightAt (s : Setup) (demanded ups : ℕ) (bounds : List ℕ) (t a : ℕ) : Type 0 where
  pub unserved : (GearServes s demanded a → ⊥)
      → (left : ℕ) → left ≤ ups → bound s.geometry ups bounds t a left ≡ no_bound
  pub steps : GearServes s demanded a → (left b : ℕ) → left ≤ ups → IsGearStep s.geometry a b
      → rise a b ≤ left → bound s.geometry ups bounds t a left ≤ onward s ups bounds t a left b

-- There is one bound for each period, gear and number of rises left, and none is above `no_bound`.
-- So where the next bound is `no_bound`, a step asks nothing. Past the last period nothing is paid.
pub record AreRight (s : Setup) (demand : List ℕ) (ups : ℕ) (bounds : List ℕ) : Type 0 where
  pub count : length bounds ≡ bound_count s.geometry ups (length demand)
  pub most : (k : ℕ) → slice_index bounds k ≤ no_bound
  pub end : (a left : ℕ)
      → IsGear s.geometry a → left ≤ ups → bound s.geometry ups bounds (length demand) a left ≡ 0
  pub each : (t a : ℕ)
      → t < length demand → IsGear s.geometry a → IsRightAt s (slice_index demand t) ups bounds t a
