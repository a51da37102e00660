-- Where the parts of a disk begin
use Rattle.std.specs.Prelude.{◌≡◌, ℕ, ◌<◌, ◌≤◌, ◌+◌}
use Rattle.std.proofs.Common.{arith, zero, suc, inl, inr, refl, add-one}
use Rattle.std.proofs.lemmas.Bool.{cases_lt}
use Rattle.paraid_base.specs.Sums.{sum_before}

pub sum_before_step : (f : ℕ → ℕ) (a b : ℕ) → a < b → sum_before f a + f a ≤ sum_before f b
unfolding sum_before
sum_before_step f a zero l = absurd (omega arith)
sum_before_step f a (suc b) l =
    elim (cases_lt a b) [ inl h ↦ omega (arith, sum_before_step f a b h) | inr h ↦ (let e : a ≡ b = omega arith in rw e (omega arith)) ]

-- two places in regions are one only in one region
pub regions_apart : (f : ℕ → ℕ) (a b s t : ℕ) → s < f a → t < f b → sum_before f a + s ≡ sum_before f b + t → (a ≡ b) × (s ≡ t)
regions_apart f a b s t l k e =
    elim (cases_lt a b) [
      | inl h ↦ absurd (omega (arith, sum_before_step f a b h))
      | inr h ↦ elim (cases_lt b a) [
        | inl g ↦ absurd (omega (arith, sum_before_step f b a g))
        | inr g ↦ (let same : a ≡ b = omega arith in (same, (let e2 : sum_before f b + s ≡ sum_before f b + t = rw same at e in omega arith)))
      ]
    ]

pub sum_before_none : (f : ℕ → ℕ) → sum_before f 0 ≡ 0
unfolding sum_before
sum_before_none f = refl

pub sum_before_more : (f : ℕ → ℕ) (n : ℕ) → sum_before f (n + 1) ≡ sum_before f n + f n
unfolding sum_before
sum_before_more f n = rw add-one refl
