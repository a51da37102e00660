-- One more step of a loop.
use Rattle.std.proofs.Common.{◌≡◌, ℕ, ◌+◌, ◌<◌, arith, inl, inr, subst}
use Rattle.std.proofs.lemmas.Bool.{cases_lt}

pub below_more : (P : ℕ → Type 0) (n : ℕ) → ((k : ℕ) → k < n → P k) → P n → (k : ℕ) → k < n + 1 → P k
below_more P n before here k l = elim (cases_lt k n) [
  | inl h ↦ before k h
  | inr h ↦ let same : n ≡ k = omega arith in subst P same here
]
