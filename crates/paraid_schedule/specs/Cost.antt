-- What a list of gears costs, in millijoules
use Rattle.std.specs.Prelude.{ℕ, ◌+◌, ◌-◌, ◌*◌, ◌&&◌, List, length, slice_index, nat_le, nat_lt, if◌then◌else◌}
use Rattle.paraid_base.specs.Sums.{sum_before}
use Rattle.paraid_record.specs.declared.meta.Setup.{Setup}

-- a period in gear `a`: that many disks spin, and the others are parked
abbrev pub period_cost : Setup → ℕ → ℕ
period_cost s a = a * s.spinning_mj + (s.geometry.disks - a) * s.parked_mj

-- a step from gear `a` to gear `b` spins up the disks between them; a fall costs nothing
abbrev pub step_cost : Setup → ℕ → ℕ → ℕ
step_cost s a b = (b - a) * s.spinup_mj

-- what the periods before period `t` cost, each with the step that ends it
abbrev pub cost_before : Setup → List ℕ → ℕ → ℕ
cost_before s gears t =
    sum_before (λ k. period_cost s (slice_index gears k)
    + step_cost s (slice_index gears k) (slice_index gears (k + 1))) t

-- all periods and the steps between them; no step ends the last period
abbrev pub schedule_cost : Setup → List ℕ → ℕ
schedule_cost s gears =
    cost_before s gears (length gears - 1) + period_cost s (slice_index gears (length gears - 1))

-- how often disk `d` is spun up: the disks from `a` to `b - 1` spin up at a step from `a` to `b`
abbrev pub spin_ups : List ℕ → ℕ → ℕ
spin_ups gears d =
    sum_before (λ k. if nat_le (slice_index gears k) d && nat_lt d (slice_index gears (k + 1))
    then 1 else 0) (length gears - 1)
