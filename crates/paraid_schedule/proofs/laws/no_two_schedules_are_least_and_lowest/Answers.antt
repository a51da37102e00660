use Rattle.std.proofs.Common.{◌≡◌, ℕ, zero, suc, ◌+◌, ◌<◌, ◌≤◌, List, length, slice_index, arith, inl, inr, sym, ◌∙◌, add-one}
use Rattle.std.proofs.Math.Nat.{le_antisymm, eq-or-lt_of_le}
use Rattle.std.proofs.lemmas.List.{ext_get_or}
use Rattle.paraid_record.specs.declared.meta.Setup.{Setup}
use Rattle.paraid_schedule.specs.Schedule.{IsSchedule}
use Rattle.paraid_schedule.specs.Cost.{schedule_cost}
use Rattle.paraid_schedule.specs.Plan.{AreLowest}
use Rattle.paraid_schedule.proofs.laws.no_two_schedules_are_least_and_lowest.Goals as goal

-- period by period neither goes on to a lower gear than the other
alike : (s : Setup) (demand gears others : List ℕ) (ups : ℕ) → IsSchedule s demand ups gears → IsSchedule s demand ups others → schedule_cost s gears ≡ schedule_cost s others
    → AreLowest s demand ups gears → AreLowest s demand ups others → (t : ℕ) → t < length gears → (k : ℕ) → k ≤ t → slice_index gears k ≡ slice_index others k
alike s demand gears others ups is other cost low lowest zero short k few =
    let first : k ≡ 0 = omega (arith, few) in
    rw first (is.first ∙ sym other.first)
alike s demand gears others ups is other cost low lowest (suc t) short k few =
    let same = alike s demand gears others ups is other cost low lowest t (omega (arith, short)) in
    let inside : t + 1 < length gears = omega (arith, short) in
    let within : t + 1 < length others = omega (arith, inside, is.periods, other.periods) in
    let next = le_antisymm (low others t other (sym cost) inside (λ j at. sym (same j at))) (lowest gears t is cost within same) in
    elim (eq-or-lt_of_le few) [ inl at ↦ rw at (rw (add-one t) at next) | inr before ↦ same k (omega (arith, before)) ]

pub returns : goal.returns
returns c = λ demand gears others ups is other least cheapest low lowest.
    let s = c.args.setup.now in
    let cost = le_antisymm (least others other) (cheapest gears is) in
    ext_get_or 0 gears others (is.periods ∙ sym other.periods) (λ t short. alike s demand gears others ups is other cost low lowest t short t (omega arith))
