-- What it costs to go on, by the kind of step, and what tests of rows of bounds show
use Rattle.std.proofs.Common.{◌≡◌, ◌↔◌, ℕ, ◌+◌, ◌-◌, ◌*◌, ◌<◌, ◌≤◌, List, slice_index, min, refl, arith}
use Rattle.paraid_record.specs.declared.meta.Setup.{Setup}
use Rattle.paraid_record.specs.Range.{AreNextGears}
use Rattle.paraid_schedule.specs.Schedule.{rise}
use Rattle.paraid_schedule.specs.Cost.{period_cost, step_cost}
use Rattle.paraid_schedule.specs.Bounds.{row_start, bound, onward}
use Rattle.paraid_schedule.proofs.GearStepLemmas.{next_lower-one, next_higher-one}

pub step_free : (n x : ℕ) → n ≡ 0 → n * x ≡ 0
step_free n x none = rw none (omega arith)

pub onward-fall : (s : Setup) (ups : ℕ) (bounds : List ℕ) (t a left b : ℕ) → b ≤ a → onward s ups bounds t a left b ≡ period_cost s a + slice_index bounds (row_start s.geometry ups (t + 1) b + left)
onward-fall s ups bounds t a left b low =
    let free = step_free (b - a) s.spinup_mj (omega arith) in
    let same : left - min (b - a) 1 ≡ left = omega arith in
    rw (free, same) (omega arith)

pub onward-rise : (s : Setup) (ups : ℕ) (bounds : List ℕ) (t a left b : ℕ) → a < b → onward s ups bounds t a left b ≡ period_cost s a + step_cost s a b + slice_index bounds (row_start s.geometry ups (t + 1) b + (left - 1))
onward-rise s ups bounds t a left b low =
    let one : min (b - a) 1 ≡ 1 = omega arith in
    rw one refl

pub allow_stay : (s : Setup) (ups : ℕ) (bounds : List ℕ) (t a at next cost : ℕ) → at ≡ row_start s.geometry ups t a → next ≡ row_start s.geometry ups (t + 1) a → cost ≡ period_cost s a
    → ((j : ℕ) → j < ups + 1 → slice_index bounds (at + j) ≤ cost + slice_index bounds (next + j))
    ↔ ((left : ℕ) → left ≤ ups → bound s.geometry ups bounds t a left ≤ onward s ups bounds t a left a)
allow_stay s ups bounds t a at next cost here there price = (
  λ each left few.
      rw (onward-fall s ups bounds t a left a (omega arith), ← here, ← there, ← price) (each left (omega arith)),
  λ all j low.
      rw (here, there, price, ← onward-fall s ups bounds t a j a (omega arith)) (all j (omega arith)),
)

pub allow_fall : (s : Setup) (ups : ℕ) (bounds : List ℕ) (t a b at next cost : ℕ) → AreNextGears s.geometry b a → at ≡ row_start s.geometry ups t a → next ≡ row_start s.geometry ups (t + 1) b → cost ≡ period_cost s a
    → ((j : ℕ) → j < ups + 1 → slice_index bounds (at + j) ≤ cost + slice_index bounds (next + j))
    ↔ ((left e : ℕ) → left ≤ ups → AreNextGears s.geometry e a → bound s.geometry ups bounds t a left ≤ onward s ups bounds t a left e)
allow_fall s ups bounds t a b at next cost fall here there price = (
  λ each left e few other.
      let low = fall.below in
      let same = next_lower-one s.geometry a b e fall other in
      rw (← same, onward-fall s ups bounds t a left b (omega arith), ← here, ← there, ← price) (each left (omega arith)),
  λ all j few.
      let low = fall.below in
      rw (here, there, price, ← onward-fall s ups bounds t a j b (omega arith)) (all j b (omega arith) fall),
)

pub allow_rise : (s : Setup) (ups : ℕ) (bounds : List ℕ) (t a b at next cost : ℕ) → AreNextGears s.geometry a b → at ≡ row_start s.geometry ups t a + 1 → next ≡ row_start s.geometry ups (t + 1) b → cost ≡ period_cost s a + step_cost s a b
    → ((j : ℕ) → j < ups → slice_index bounds (at + j) ≤ cost + slice_index bounds (next + j))
    ↔ ((left e : ℕ) → left ≤ ups → AreNextGears s.geometry a e → rise a e ≤ left → bound s.geometry ups bounds t a left ≤ onward s ups bounds t a left e)
allow_rise s ups bounds t a b at next cost up_step here there price =
    let low = up_step.below in (
      λ each left e few other room.
          let same = next_higher-one s.geometry a b e up_step other in
          let room_here : min (b - a) 1 ≤ left = rw same room in
          let place : row_start s.geometry ups t a + left ≡ at + (left - 1) = omega arith in
          rw (← same, onward-rise s ups bounds t a left b low, place, ← there, ← price) (each (left - 1) (omega arith)),
      λ all j few.
          let place : at + j ≡ row_start s.geometry ups t a + (j + 1) = omega arith in
          let less : j + 1 - 1 ≡ j = omega arith in
          let step = all (j + 1) b (omega arith) up_step (omega arith) in
          let priced = rw (onward-rise s ups bounds t a (j + 1) b low, less) at step in
          rw (place, there, price) priced,
    )
