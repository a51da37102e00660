-- What tests say of each period and of each kind of step
use Rattle.std.proofs.Common.{◌≡◌, ◌↔◌, ℕ, ◌+◌, ◌-◌, ◌^◌, ◌<◌, ◌≤◌, ◌⊎◌, Bool, false, IsTrue, List, slice_index, eqb, inl, inr, refl, sym, ◌∙◌, arith, Fits, w64}
use Rattle.std.proofs.lemmas.Bool.{cases_lt, false≢true, eqb-true, eq-eqb}
use Rattle.paraid_record.specs.declared.meta.Setup.{Setup}
use Rattle.paraid_record.specs.Range.{AreNextGears}
use Rattle.paraid_schedule.specs.Schedule.{GearServes, rise}
use Rattle.paraid_schedule.specs.Cost.{period_cost}
use Rattle.paraid_schedule.specs.Bounds.{no_bound, row_start, bound, onward, IsRightAt}
use Rattle.paraid_schedule.specs.Solved.{IsMetBy}
use Rattle.paraid_schedule.proofs.OnwardLemmas.{onward-fall}

-- a part fails, so the whole is not so
pub refused : {P : Type 0} (A : Type 0) (test : Bool) → IsTrue test ↔ P → test ≡ false → (A → P) → IsTrue false ↔ A
refused A test told is part = (λ t. absurd (false≢true t), λ a. absurd (false≢true (sym is ∙ told.1 (part a))))

pub not_so : {P : Type 0} (test : Bool) → IsTrue test ↔ P → test ≡ false → P → ⊥
not_so test told is p = absurd (false≢true (sym is ∙ told.1 p))

pub before_end : (k n t : ℕ) → k < n → n ≤ t → k < t
before_end k n t low end = omega arith

-- one more step before period `t + 1`
pub steps_more : (P : ℕ → ℕ → Type 0) (t : ℕ) → 1 ≤ t → ((k : ℕ) → k + 1 < t → P k (k + 1)) → P (t - 1) t → (k : ℕ) → k + 1 < t + 1 → P k (k + 1)
steps_more P t some each last k low =
    elim (cases_lt (k + 1) t) [
      | inl before ↦ each k before
      | inr high ↦
          (let here : t ≡ k + 1 = omega arith in
          let less : k + 1 - 1 ≡ k = omega arith in
          rw less at (rw here at last))
    ]

pub step_at : (P : ℕ → ℕ → Type 0) (t n : ℕ) → 1 ≤ t → t < n → ((k : ℕ) → k + 1 < n → P k (k + 1)) → P (t - 1) t
step_at P t n some low each = let here : t - 1 + 1 ≡ t = omega arith in rw here at (each (t - 1) (omega arith))

pub costs_low : (x y : ℕ) → x < 2 ^ 40 → y < 2 ^ 40 → x + y ≤ no_bound
costs_low x y a b = omega arith

pub costs_fit : (x y : ℕ) → x < 2 ^ 40 → y < 2 ^ 40 → Fits w64 (x + y)
costs_fit x y a b = omega arith

-- what lies outside a row lies outside the part of it with a step up left
pub past_row : (k row at ups : ℕ) → at ≡ row → (k < row) ⊎ (row + (ups + 1) ≤ k) → (k < at + 1) ⊎ (at + 1 + ups ≤ k)
past_row k row at ups here (inl low) = inl (omega arith)
past_row k row at ups here (inr high) = inr (omega arith)

-- staying in the gear is what the bound says
pub stay_is_met : (s : Setup) (ups : ℕ) (bounds : List ℕ) (t a left at next cost : ℕ) → at ≡ row_start s.geometry ups t a → next ≡ row_start s.geometry ups (t + 1) a → cost ≡ period_cost s a
    → IsTrue (eqb (cost + slice_index bounds (next + left)) (slice_index bounds (at + left))) ↔ IsMetBy s ups bounds t a left a
stay_is_met s ups bounds t a left at next cost here there price =
    rw (onward-fall s ups bounds t a left a (omega arith), ← here, ← there, ← price)
    (λ is. sym (eqb-true _ _ is), λ met. eq-eqb _ _ (sym met))

module _ (s : Setup) (demanded ups : ℕ) (bounds : List ℕ) (t a : ℕ) where
  -- a row is none where the gear does not serve the demand
  pub unserved_is_right : (at : ℕ) (test : Bool) → (GearServes s demanded a → ⊥) → at ≡ row_start s.geometry ups t a
      → IsTrue test ↔ ((j : ℕ) → j < ups + 1 → slice_index bounds (at + j) ≡ no_bound) → IsTrue test ↔ IsRightAt s demanded ups bounds t a
  unserved_is_right at test not here told = (
    λ is. record {
      unserved = λ no left few. rw (← here) (told.0 is left (omega arith));
      steps = λ served left b few step room. absurd (not served);
    },
    λ right. told.1 (λ j low. rw here (right.unserved not j (omega arith))),
  )

  abbrev pub AllowsStay : Type 0
  AllowsStay = (left : ℕ) → left ≤ ups → bound s.geometry ups bounds t a left ≤ onward s ups bounds t a left a

  abbrev pub AllowsFall : Type 0
  AllowsFall = (left b : ℕ) → left ≤ ups → AreNextGears s.geometry b a → bound s.geometry ups bounds t a left ≤ onward s ups bounds t a left b

  abbrev pub AllowsRise : Type 0
  AllowsRise = (left b : ℕ) → left ≤ ups → AreNextGears s.geometry a b → rise a b ≤ left → bound s.geometry ups bounds t a left ≤ onward s ups bounds t a left b

  -- a row is right where it allows for each kind of step
  pub served_is_right : GearServes s demanded a → AllowsStay → AllowsFall → AllowsRise → IsRightAt s demanded ups bounds t a
  served_is_right served stay fall up_step = record {
    unserved = λ not left few. absurd (not served);
    steps = λ is left b few step room.
        elim step [
          | inl same ↦ rw same (stay left few)
          | inr (inl down) ↦ fall left b few down
          | inr (inr up) ↦ up_step left b few up room
        ];
  }

  pub right_stay : GearServes s demanded a → IsRightAt s demanded ups bounds t a → AllowsStay
  right_stay served right left few = right.steps served left a few (inl refl) (omega arith)

  pub right_fall : GearServes s demanded a → IsRightAt s demanded ups bounds t a → AllowsFall
  right_fall served right left b few down = let low = down.below in right.steps served left b few (inr (inl down)) (omega arith)

  pub right_rise : GearServes s demanded a → IsRightAt s demanded ups bounds t a → AllowsRise
  right_rise served right left b few up room = right.steps served left b few (inr (inr up)) room

-- a fall, or staying in the gear, is what the bound says where the figures are equal
pub level_is_met : (s : Setup) (ups : ℕ) (bounds : List ℕ) (t a b left at next cost : ℕ) → b ≤ a → at ≡ row_start s.geometry ups t a → next ≡ row_start s.geometry ups (t + 1) b → cost ≡ period_cost s a
    → cost + slice_index bounds (next + left) ≡ slice_index bounds (at + left) → IsMetBy s ups bounds t a left b
level_is_met s ups bounds t a b left at next cost low here there price is =
    rw (onward-fall s ups bounds t a left b low, ← here, ← there, ← price) (sym is)

pub level_not_met : (s : Setup) (ups : ℕ) (bounds : List ℕ) (t a b left at next cost : ℕ) → b ≤ a → at ≡ row_start s.geometry ups t a → next ≡ row_start s.geometry ups (t + 1) b → cost ≡ period_cost s a
    → (cost + slice_index bounds (next + left) ≡ slice_index bounds (at + left) → ⊥) → IsMetBy s ups bounds t a left b → ⊥
level_not_met s ups bounds t a b left at next cost low here there price not met =
    not (let value = rw (onward-fall s ups bounds t a left b low, ← here, ← there, ← price) at met in sym value)
