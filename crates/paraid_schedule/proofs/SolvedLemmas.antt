-- How relaxed rows of bounds are right and met
use Rattle.std.proofs.Common.{◌≡◌, ◌⊎◌, ℕ, zero, suc, ◌+◌, ◌-◌, ◌<◌, ◌≤◌, List, slice_index, min, inl, inr, refl, sym, ◌∙◌, ap, arith}
use Rattle.std.proofs.lemmas.Bool.{cases_lt}
use Rattle.paraid_base.specs.declared.geometry.Geometry.{Geometry}
use Rattle.paraid_base.specs.Regions.{IsGear}
use Rattle.paraid_record.specs.declared.meta.Setup.{Setup}
use Rattle.paraid_record.specs.Range.{AreNextGears}
use Rattle.paraid_schedule.specs.Schedule.{GearServes, rise}
use Rattle.paraid_schedule.specs.Cost.{period_cost, step_cost}
use Rattle.paraid_schedule.specs.Bounds.{no_bound, row_start, bound, onward}
use Rattle.paraid_schedule.specs.Solved.{IsLeastCostAfter, IsSolvedAt, DifferInRow, AreSameIn}
use Rattle.paraid_schedule.proofs.RowLemmas.{rows-periods, rows-gears}
use Rattle.paraid_schedule.proofs.GearStepLemmas.{step_gear}
use Rattle.paraid_schedule.proofs.OnwardLemmas.{onward-fall, onward-rise}

module _ (s : Setup) (ups t : ℕ) (old new : List ℕ) where
  -- the next periods' bounds do not differ
  pub later_same : (a : ℕ) → IsGear s.geometry a → DifferInRow s.geometry ups t a old new → (u : ℕ) → t < u → AreSameIn s.geometry ups u old new
  later_same a is differ u later b left gear few =
      let apart = rows-periods s.geometry ups t u a b is later in
      differ (row_start s.geometry ups u b + left) (inr (omega arith))

  pub gears_same : (a : ℕ) → IsGear s.geometry a → DifferInRow s.geometry ups t a old new → (e : ℕ) → e < a → IsGear s.geometry e → (left : ℕ) → left ≤ ups → bound s.geometry ups new t e left ≡ bound s.geometry ups old t e left
  gears_same a is differ e low gear left few =
      let apart = rows-gears s.geometry ups t e a gear low in
      differ (row_start s.geometry ups t e + left) (inl (omega arith))

  pub onward-same : AreSameIn s.geometry ups (t + 1) old new → (a left b : ℕ) → IsGear s.geometry b → left ≤ ups → onward s ups new t a left b ≡ onward s ups old t a left b
  onward-same same a left b gear few =
      ap (λ n. period_cost s a + step_cost s a b + n) (same b (left - rise a b) gear (omega arith))

  -- bounds that do not change stay right and met
  pub IsSolvedAt-same : (demanded a : ℕ) → IsGear s.geometry a → ((left : ℕ) → left ≤ ups → bound s.geometry ups new t a left ≡ bound s.geometry ups old t a left) → AreSameIn s.geometry ups (t + 1) old new → IsSolvedAt s demanded ups old t a → IsSolvedAt s demanded ups new t a
  IsSolvedAt-same demanded a is here next solved = record {
    right = record {
      unserved = λ not left few. here left few ∙ solved.right.unserved not left few;
      steps = λ served left b few step room.
          rw (here left few, onward-same next a left b (step_gear s.geometry a b is step) few) (solved.right.steps served left b few step room);
    };
    met = λ left few.
        elim (solved.met left few) [
          | inl is_none ↦ inl (here left few ∙ is_none)
          | inr found ↦ inr (found.0, found.1, found.2, here left few ∙ found.3 ∙ sym (onward-same next a left found.0 (step_gear s.geometry a found.0 is found.1) few))
        ];
  }

-- the least of a bound and the one step of a kind
pub IsLeastCostAfter-min : (kind : ℕ → Type 0) (s : Setup) (ups : ℕ) (bounds : List ℕ) (t a left before after b : ℕ) → kind b → ((e : ℕ) → kind e → e ≡ b) → rise a b ≤ left → after ≡ min before (onward s ups bounds t a left b) → IsLeastCostAfter kind s ups bounds t a left before after
IsLeastCostAfter-min kind s ups bounds t a left before after b is one room value = record {
  low = omega arith;
  each = λ e other few. (let same : e ≡ b = one e other in rw same (omega arith));
  met = elim (cases_lt (onward s ups bounds t a left b) before) [
    | inl low ↦ inr (b, is, room, omega arith)
    | inr high ↦ inl (omega arith)
  ];
}

-- where the kind has no permitted step, nothing changes
pub IsLeastCostAfter-none : (kind : ℕ → Type 0) (s : Setup) (ups : ℕ) (bounds : List ℕ) (t a left before after : ℕ) → ((e : ℕ) → kind e → rise a e ≤ left → ⊥) → after ≡ before → IsLeastCostAfter kind s ups bounds t a left before after
IsLeastCostAfter-none kind s ups bounds t a left before after not same = record {
  low = omega arith;
  each = λ e other few. absurd (not e other few);
  met = inl same;
}

pub least_level : (kind : ℕ → Type 0) (s : Setup) (ups : ℕ) (old new : List ℕ) (t a b at next cost : ℕ) → b ≤ a → kind b → ((e : ℕ) → kind e → e ≡ b) → at ≡ row_start s.geometry ups t a → next ≡ row_start s.geometry ups (t + 1) b → cost ≡ period_cost s a
    → ((j : ℕ) → j < ups + 1 → slice_index new (at + j) ≡ min (slice_index old (at + j)) (cost + slice_index old (next + j)))
    → (left : ℕ) → left ≤ ups → IsLeastCostAfter kind s ups old t a left (bound s.geometry ups old t a left) (bound s.geometry ups new t a left)
least_level kind s ups old new t a b at next cost low is one here there price relaxed left few =
    let value = relaxed left (omega arith) in
    let value_here : bound s.geometry ups new t a left ≡ min (bound s.geometry ups old t a left) (onward s ups old t a left b) =
    rw (onward-fall s ups old t a left b low, ← here, ← there, ← price) value in
    IsLeastCostAfter-min kind s ups old t a left (bound s.geometry ups old t a left) (bound s.geometry ups new t a left) b is one (omega arith) value_here

pub least_rise : (kind : ℕ → Type 0) (s : Setup) (ups : ℕ) (old new : List ℕ) (t a b at next cost : ℕ) → a < b → kind b → ((e : ℕ) → kind e → e ≡ b) → at ≡ row_start s.geometry ups t a → next ≡ row_start s.geometry ups (t + 1) b → cost ≡ period_cost s a + step_cost s a b
    → ((j : ℕ) → j < ups → slice_index new (at + 1 + j) ≡ min (slice_index old (at + 1 + j)) (cost + slice_index old (next + j)))
    → ((k : ℕ) → (k < at + 1) ⊎ (at + 1 + ups ≤ k) → slice_index new k ≡ slice_index old k)
    → (left : ℕ) → left ≤ ups → IsLeastCostAfter kind s ups old t a left (bound s.geometry ups old t a left) (bound s.geometry ups new t a left)
least_rise kind s ups old new t a b at next cost low is one here there price relaxed same zero few =
    IsLeastCostAfter-none kind s ups old t a 0 (bound s.geometry ups old t a 0) (bound s.geometry ups new t a 0)
    (λ e other room. let same_gear : e ≡ b = one e other in omega arith)
    (same (row_start s.geometry ups t a + 0) (inl (omega arith)))
least_rise kind s ups old new t a b at next cost low is one here there price relaxed same (suc left) few =
    let value = relaxed left (omega arith) in
    let place : at + 1 + left ≡ row_start s.geometry ups t a + suc left = omega arith in
    let less : suc left - 1 ≡ left = omega arith in
    let value_here : bound s.geometry ups new t a (suc left) ≡ min (bound s.geometry ups old t a (suc left)) (onward s ups old t a (suc left) b) =
    rw (onward-rise s ups old t a (suc left) b low, less, ← place, ← there, ← price) value in
    IsLeastCostAfter-min kind s ups old t a (suc left) (bound s.geometry ups old t a (suc left)) (bound s.geometry ups new t a (suc left)) b is one (omega arith) value_here

-- a row that was cleared and not relaxed is right where the gear does not serve the demand
pub solved_unserved : (s : Setup) (demanded ups : ℕ) (bounds : List ℕ) (t a : ℕ) → (GearServes s demanded a → ⊥) → ((left : ℕ) → left ≤ ups → bound s.geometry ups bounds t a left ≡ no_bound) → IsSolvedAt s demanded ups bounds t a
solved_unserved s demanded ups bounds t a not cleared = record {
  right = record {
    unserved = λ no left few. cleared left few;
    steps = λ served left b few step room. absurd (not served);
  };
  met = λ left few. inl (cleared left few);
}

-- a row that was cleared and then relaxed by each kind of step is right and met
pub solved_served : (s : Setup) (demanded ups : ℕ) (one two three four : List ℕ) (t a : ℕ) → IsGear s.geometry a → GearServes s demanded a
    → ((left : ℕ) → left ≤ ups → bound s.geometry ups one t a left ≡ no_bound)
    → ((left : ℕ) → left ≤ ups → IsLeastCostAfter (λ b. b ≡ a) s ups one t a left (bound s.geometry ups one t a left) (bound s.geometry ups two t a left))
    → ((left : ℕ) → left ≤ ups → IsLeastCostAfter (λ b. AreNextGears s.geometry b a) s ups two t a left (bound s.geometry ups two t a left) (bound s.geometry ups three t a left))
    → ((left : ℕ) → left ≤ ups → IsLeastCostAfter (λ b. AreNextGears s.geometry a b) s ups three t a left (bound s.geometry ups three t a left) (bound s.geometry ups four t a left))
    → DifferInRow s.geometry ups t a one two → DifferInRow s.geometry ups t a two three → DifferInRow s.geometry ups t a three four
    → IsSolvedAt s demanded ups four t a
solved_served s demanded ups one two three four t a is served cleared stay fall up_step differ2 differ3 differ4 =
    let same4 = later_same s ups t three four a is differ4 (t + 1) (omega arith) in
    let same3 = later_same s ups t two three a is differ3 (t + 1) (omega arith) in
    let same2 = later_same s ups t one two a is differ2 (t + 1) (omega arith) in
    let on4 = λ (left b : ℕ) (gear : IsGear s.geometry b) (few : left ≤ ups). onward-same s ups t three four same4 a left b gear few in
    let on3 = λ (left b : ℕ) (gear : IsGear s.geometry b) (few : left ≤ ups). onward-same s ups t two three same3 a left b gear few ∙ refl in
    let on2 = λ (left b : ℕ) (gear : IsGear s.geometry b) (few : left ≤ ups). onward-same s ups t one two same2 a left b gear few ∙ refl in
    record {
      right = record {
        unserved = λ not left few. absurd (not served);
        steps = λ yes_served left b few step room.
            (let gear = step_gear s.geometry a b is step in
            let low2 = (stay left few).low in
            let low3 = (fall left few).low in
            let low4 = (up_step left few).low in
            let e4 = on4 left b gear few in
            let e3 = on3 left b gear few in
            let e2 = on2 left b gear few in
            elim step [
              | inl same ↦ (let least = (stay left few).each b same room in omega arith)
              | inr (inl down) ↦ (let least = (fall left few).each b down room in omega arith)
              | inr (inr up) ↦ (let least = (up_step left few).each b up room in omega arith)
            ]);
      };
      met = λ left few.
          elim (up_step left few).met [
            | inr found ↦ inr (found.0, inr (inr found.1), found.2, found.3 ∙ sym (on4 left found.0 found.1.higher_gear few))
            | inl same4_here ↦
                elim (fall left few).met [
                  | inr found ↦ inr (found.0, inr (inl found.1), found.2, same4_here ∙ found.3 ∙ sym (on4 left found.0 found.1.lower_gear few ∙ on3 left found.0 found.1.lower_gear few))
                  | inl same3_here ↦
                      elim (stay left few).met [
                        | inr found ↦
                            (let gear : IsGear s.geometry found.0 = rw found.1 is in
                            inr (found.0, inl found.1, found.2, same4_here ∙ same3_here ∙ found.3 ∙ sym (on4 left found.0 gear few ∙ on3 left found.0 gear few ∙ on2 left found.0 gear few)))
                        | inl same2_here ↦ inl (same4_here ∙ same3_here ∙ same2_here ∙ cleared left few)
                      ]
                ]
          ];
    }

-- a row whose bounds are all cleared
pub cleared_row : (g : Geometry) (ups : ℕ) (bounds : List ℕ) (t a at : ℕ) → at ≡ row_start g ups t a → ((j : ℕ) → j < ups + 1 → slice_index bounds (at + j) ≡ no_bound)
    → (left : ℕ) → left ≤ ups → bound g ups bounds t a left ≡ no_bound
cleared_row g ups bounds t a at here cleared left few = rw here at (cleared left (omega arith))
