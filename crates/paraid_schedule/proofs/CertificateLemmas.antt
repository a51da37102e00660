-- Right bounds certify a cost
use Rattle.std.proofs.Common.{◌≡◌, ℕ, zero, suc, ◌+◌, ◌-◌, ◌<◌, ◌≤◌, List, length, slice_index, nat_le, nat_lt, ◌&&◌, if◌then◌else◌, inl, refl, arith, add-one}
use Rattle.std.proofs.lemmas.Bool.Decides.{nat_tests}
use Rattle.paraid_base.specs.Regions.{IsGear}
use Rattle.paraid_base.specs.Sums.{sum_before}
use Rattle.paraid_record.specs.declared.meta.Setup.{Setup}
use Rattle.paraid_schedule.specs.Schedule.{IsDemand, IsSchedule, rise, rises_before}
use Rattle.paraid_schedule.specs.Cost.{period_cost, step_cost, cost_before, schedule_cost, spin_ups}
use Rattle.paraid_schedule.specs.Bounds.{bound, AreRight}
use Rattle.paraid_base.proofs.PlacesLemmas.{sum_before_none, sum_before_more}
use Rattle.paraid_schedule.proofs.GearStepLemmas.{step_gear}
use Rattle.paraid_schedule.proofs.OnwardLemmas.{onward-fall}

pub rises_before-none : (gears : List ℕ) → rises_before gears 0 ≡ 0
rises_before-none gears = sum_before_none (λ k. rise (slice_index gears k) (slice_index gears (k + 1)))

pub rises_before-more : (gears : List ℕ) (t : ℕ) → rises_before gears (t + 1) ≡ rises_before gears t + rise (slice_index gears t) (slice_index gears (t + 1))
rises_before-more gears t = sum_before_more (λ k. rise (slice_index gears k) (slice_index gears (k + 1))) t

pub cost_before-none : (s : Setup) (gears : List ℕ) → cost_before s gears 0 ≡ 0
cost_before-none s gears =
    sum_before_none (λ k. period_cost s (slice_index gears k) + step_cost s (slice_index gears k) (slice_index gears (k + 1)))

pub cost_before-more : (s : Setup) (gears : List ℕ) (t : ℕ) → cost_before s gears (t + 1) ≡ cost_before s gears t + (period_cost s (slice_index gears t) + step_cost s (slice_index gears t) (slice_index gears (t + 1)))
cost_before-more s gears t =
    sum_before_more (λ k. period_cost s (slice_index gears k) + step_cost s (slice_index gears k) (slice_index gears (k + 1))) t

-- the same at the last period before `t`
pub rises_before-at : (gears : List ℕ) (t : ℕ) → 1 ≤ t → rises_before gears (t + 1 - 1) ≡ rises_before gears (t - 1) + rise (slice_index gears (t - 1)) (slice_index gears t)
rises_before-at gears t some =
    let here : t - 1 + 1 ≡ t = omega arith in
    let there : t + 1 - 1 ≡ t = omega arith in
    rw there (rw here at (rises_before-more gears (t - 1)))

pub cost_before-at : (s : Setup) (gears : List ℕ) (t : ℕ) → 1 ≤ t → cost_before s gears (t + 1 - 1) ≡ cost_before s gears (t - 1) + (period_cost s (slice_index gears (t - 1)) + step_cost s (slice_index gears (t - 1)) (slice_index gears t))
cost_before-at s gears t some =
    let here : t - 1 + 1 ≡ t = omega arith in
    let there : t + 1 - 1 ≡ t = omega arith in
    rw there (rw here at (cost_before-more s gears (t - 1)))

pub sum_before-le : (f g : ℕ → ℕ) → ((k : ℕ) → f k ≤ g k) → (n : ℕ) → sum_before f n ≤ sum_before g n
unfolding sum_before
sum_before-le f g each zero = omega arith
sum_before-le f g each (suc n) = omega (arith, each n, sum_before-le f g each n)

-- a step spins up each disk at most once, and none unless it leads to a higher gear
spun_up_few : (a b d : ℕ) → (if nat_le a d && nat_lt d b then 1 else 0) ≤ rise a b
spun_up_few a b d = grind (arith, nat_tests)

module _ (s : Setup) (demand : List ℕ) (ups : ℕ) (gears : List ℕ) (is : IsSchedule s demand ups gears) where
  -- each member is a gear
  pub gear_at : (t : ℕ) → t < length gears → IsGear s.geometry (slice_index gears t)
  gear_at zero low = rw is.first s.geometry.last
  gear_at (suc t) low =
      let step = is.steps t (omega arith) in
      rw (← add-one) (step_gear s.geometry (slice_index gears t) (slice_index gears (t + 1)) (gear_at t (omega arith)) step)

  -- the cost of the schedule up to a period and the bound from there on are at least the start's
  pub potential : (bounds : List ℕ) → AreRight s demand ups bounds → (t : ℕ) → t < length gears → rises_before gears t ≤ ups → bound s.geometry ups bounds 0 s.geometry.disks ups ≤ cost_before s gears t + bound s.geometry ups bounds t (slice_index gears t) (ups - rises_before gears t)
  potential bounds right zero low few =
      let start : ups - 0 ≡ ups = omega arith in
      rw (rises_before-none gears, cost_before-none s gears, is.first, start) (omega arith)
  potential bounds right (suc t) low few =
      let a = slice_index gears t in
      let b = slice_index gears (t + 1) in
      let more = rises_before-more gears t in
      let paid = cost_before-more s gears t in
      let few_now : rises_before gears (t + 1) ≤ ups = rw (add-one t) few in
      let before = potential bounds right t (omega arith) (omega arith) in
      let periods = is.periods in
      let at = right.each t a (omega arith) (gear_at t (omega arith)) in
      let step = at.steps (is.served t (omega arith)) (ups - rises_before gears t) b (omega arith) (is.steps t (omega arith)) (omega arith) in
      let left : ups - rises_before gears t - rise a b ≡ ups - rises_before gears (t + 1) = omega arith in
      let on = rw left at step in
      let next : bound s.geometry ups bounds 0 s.geometry.disks ups ≤ cost_before s gears (t + 1) + bound s.geometry ups bounds (t + 1) b (ups - rises_before gears (t + 1)) = omega arith in
      rw (add-one t) at next

  pub start_bounds_cost : (bounds : List ℕ) → IsDemand demand → AreRight s demand ups bounds → bound s.geometry ups bounds 0 s.geometry.disks ups ≤ schedule_cost s gears
  start_bounds_cost bounds demanded right =
      let some = demanded.some in
      let periods = is.periods in
      let t = length gears - 1 in
      let a = slice_index gears t in
      let left = ups - rises_before gears t in
      let gear = gear_at t (omega arith) in
      let before = potential bounds right t (omega arith) is.within in
      let at = right.each t a (omega arith) gear in
      let step = at.steps (is.served t (omega arith)) left a (omega arith) (inl refl) (omega arith) in
      let on = onward-fall s ups bounds t a left a (omega arith) in
      let end = right.end a left gear (omega arith) in
      let last : t + 1 ≡ length demand = omega arith in
      let end_here = rw (← last) at end in
      omega arith

  -- from each period on it costs at least what the bound says
  pub rest_costs : (bounds : List ℕ) → AreRight s demand ups bounds → (k t : ℕ) → t + 1 + k ≡ length gears
      → (rises_before gears t ≤ ups) × (cost_before s gears t + bound s.geometry ups bounds t (slice_index gears t) (ups - rises_before gears t) ≤ schedule_cost s gears)
  rest_costs bounds right zero t next =
      let periods = is.periods in
      let here : length gears - 1 ≡ t = omega arith in
      let few : rises_before gears t ≤ ups = rw here at is.within in
      let a = slice_index gears t in
      let left = ups - rises_before gears t in
      let gear = gear_at t (omega arith) in
      let at = right.each t a (omega arith) gear in
      let step = at.steps (is.served t (omega arith)) left a (omega arith) (inl refl) (omega arith) in
      let on = onward-fall s ups bounds t a left a (omega arith) in
      let end = right.end a left gear (omega arith) in
      let last : t + 1 ≡ length demand = omega arith in
      let end_here = rw (← last) at end in
      (few, rw here (omega arith))
  rest_costs bounds right (suc k) t next =
      let after = rest_costs bounds right k (t + 1) (omega arith) in
      let few_next = after.0 in
      let costs_next = after.1 in
      let a = slice_index gears t in
      let b = slice_index gears (t + 1) in
      let more = rises_before-more gears t in
      let paid = cost_before-more s gears t in
      let periods = is.periods in
      let at = right.each t a (omega arith) (gear_at t (omega arith)) in
      let step = at.steps (is.served t (omega arith)) (ups - rises_before gears t) b (omega arith) (is.steps t (omega arith)) (omega arith) in
      let left : ups - rises_before gears t - rise a b ≡ ups - rises_before gears (t + 1) = omega arith in
      let on = rw left at step in
      (omega (arith, few_next, more), omega (arith, costs_next, paid, on))

  pub spin_ups_few : (d : ℕ) → spin_ups gears d ≤ ups
  spin_ups_few d =
      let few = is.within in
      omega (arith, sum_before-le (λ k. if nat_le (slice_index gears k) d && nat_lt d (slice_index gears (k + 1)) then 1 else 0) (λ k. rise (slice_index gears k) (slice_index gears (k + 1))) (λ k. spun_up_few (slice_index gears k) (slice_index gears (k + 1)) d) (length gears - 1))
