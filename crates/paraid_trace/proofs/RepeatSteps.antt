-- A repetition that is doubled until it fills a block
use Rattle.std.proofs.Common.{◌≡◌, ℕ, ◌+◌, ◌-◌, ◌%◌, ◌<◌, ◌≤◌, List, length, get_or, sym, ap, ◌∙◌, arith, inl, inr}
use Rattle.std.specs.List.{SameBelow, CopiedTo}
use Rattle.std.proofs.lemmas.Bool.{cases_lt}
use Rattle.std.proofs.Math.Nat.{mod-add-mod, mod-eq_of_lt}

-- the first places hold the repetition
abbrev pub Repeated : List ℕ → List ℕ → ℕ → Type 0
Repeated pattern bytes n = (k : ℕ) → k < n → get_or bytes k 0 ≡ get_or pattern (k % length pattern) 0

-- a place that is a whole number of turns later
pub turned : (done j n : ℕ) → done % n ≡ 0 → (done + j) % n ≡ j % n
turned done j n h = sym (mod-add-mod done n j) ∙ ap (λ r. (r + j) % n) h ∙ ap (λ r. r % n) (omega arith)

-- the first turn, or the part of it that there is room for
pub first_turn : (pattern bytes : List ℕ) (done : ℕ) → done ≤ length pattern → ((k : ℕ) → k < done → get_or bytes k 0 ≡ get_or pattern k 0) → Repeated pattern bytes done
first_turn pattern bytes done within h k lt =
    let near : k < length pattern = omega arith in
    h k lt ∙ ap (λ i. get_or pattern i 0) (sym (mod-eq_of_lt near))

-- what is there is copied behind itself
pub doubled : (pattern old new : List ℕ) (done more : ℕ) → Repeated pattern old done → done % length pattern ≡ 0 → more ≤ done
    → CopiedTo old new 0 done (more - 0) → SameBelow old new done → Repeated pattern new (done + more)
doubled pattern old new done more h turn few copied same k lt = elim (cases_lt k done) [
  | inl below ↦ same k 0 below ∙ h k below
  | inr above ↦
      let there : done + (k - done) ≡ k = omega arith in
      copied k 0 above (omega arith) ∙ ap (λ i. get_or old i 0) (omega arith) ∙ h (k - done) (omega arith) ∙ ap (λ i. get_or pattern i 0) (sym (turned done (k - done) (length pattern) turn) ∙ ap (λ i. i % length pattern) there)
]
