-- How a row of bounds is lowered by one kind of step
use Rattle.std.proofs.Common.{◌≡◌, ◌⊎◌, ℕ, ◌+◌, ◌<◌, ◌≤◌, List, slice_index, min, inl, inr, refl, sym, subst}
use Rattle.paraid_record.specs.declared.meta.Setup.{Setup}
use Rattle.paraid_record.specs.Range.{AreNextGears}
use Rattle.paraid_schedule.specs.Cost.{period_cost, step_cost}
use Rattle.paraid_schedule.specs.Bounds.{no_bound, row_start, bound}
use Rattle.paraid_schedule.specs.Solved.{AreLoweredBy}
use Rattle.paraid_schedule.proofs.GearStepLemmas.{next_lower-one, next_higher-one}
use Rattle.paraid_schedule.proofs.SolvedLemmas.{least_level, least_rise, IsLeastCostAfter-none}
use Rattle.paraid_schedule.proofs.TestLemmas.{past_row}

module _ (s : Setup) (ups t a : ℕ) (old new : List ℕ) where
  pub lowered_level : (b at next cost : ℕ) → b ≤ a → at ≡ row_start s.geometry ups t a → next ≡ row_start s.geometry ups (t + 1) b → cost ≡ period_cost s a
      → ((j : ℕ) → j < ups + 1 → slice_index new (at + j) ≡ min (slice_index old (at + j)) (cost + slice_index old (next + j)))
      → ((k : ℕ) → (k < at) ⊎ (at + (ups + 1) ≤ k) → slice_index new k ≡ slice_index old k) → ((k : ℕ) → slice_index new k ≤ no_bound)
      → AreLoweredBy (λ e. e ≡ b) s ups t a old new
  lowered_level b at next cost low here there price relaxed same most = record {
    least = least_level (λ e. e ≡ b) s ups old new t a b at next cost low refl (λ e is. is) here there price relaxed;
    same = subst (λ (row : ℕ). (k : ℕ) → (k < row) ⊎ (row + (ups + 1) ≤ k) → slice_index new k ≡ slice_index old k) here same;
    most = most;
  }

  pub lowered_rise : (b at next cost : ℕ) → AreNextGears s.geometry a b → at ≡ row_start s.geometry ups t a → next ≡ row_start s.geometry ups (t + 1) b → cost ≡ period_cost s a + step_cost s a b
      → ((j : ℕ) → j < ups → slice_index new (at + 1 + j) ≡ min (slice_index old (at + 1 + j)) (cost + slice_index old (next + j)))
      → ((k : ℕ) → (k < at + 1) ⊎ (at + 1 + ups ≤ k) → slice_index new k ≡ slice_index old k) → ((k : ℕ) → slice_index new k ≤ no_bound)
      → AreLoweredBy (λ e. AreNextGears s.geometry a e) s ups t a old new
  lowered_rise b at next cost is here there price relaxed same most = record {
    least = least_rise (λ e. AreNextGears s.geometry a e) s ups old new t a b at next cost is.below is (λ e other. next_higher-one s.geometry a e b other is) here there price relaxed same;
    same = λ k out. same k (past_row k _ at ups here out);
    most = most;
  }

  -- the one step of the kind is the fall to gear `b`
  pub lowered_fall : (b : ℕ) → AreNextGears s.geometry b a → AreLoweredBy (λ e. e ≡ b) s ups t a old new → AreLoweredBy (λ e. AreNextGears s.geometry e a) s ups t a old new
  lowered_fall b fall by = record {
    least = λ left few.
        let least = by.least left few in
        record {
          low = least.low;
          each = λ e other room. least.each e (next_lower-one s.geometry a e b other fall) room;
          met = elim least.met [
            | inl same ↦ inl same
            | inr found ↦ inr (found.0, subst (λ (e : ℕ). AreNextGears s.geometry e a) (sym found.1) fall, found.2, found.3)
          ];
        };
    same = by.same;
    most = by.most;
  }

-- where there is no step of the kind, nothing changes
pub lowered_none : (kind : ℕ → Type 0) (s : Setup) (ups t a : ℕ) (bounds : List ℕ) → ((e : ℕ) → kind e → ⊥) → ((k : ℕ) → slice_index bounds k ≤ no_bound) → AreLoweredBy kind s ups t a bounds bounds
lowered_none kind s ups t a bounds not most = record {
  least = λ left few.
      IsLeastCostAfter-none kind s ups bounds t a left (bound s.geometry ups bounds t a left) (bound s.geometry ups bounds t a left) (λ e is room. not e is) refl;
  same = λ k out. refl;
  most = most;
}
