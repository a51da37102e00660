-- What a test says of a fact that is more than what it tests.
use Rattle.std.specs.Prelude.{◌≡◌, ◌↔◌, ◌+◌, ◌<◌, ◌≤◌, ℕ, Bool, true, false, IsTrue}
use Rattle.std.proofs.Common.{below_more, refl, sym, ap, ◌∙◌, arith, Option, Some, None}
use Rattle.std.specs.Option.{is_some}
use Rattle.std.proofs.lemmas.Bool.{false≢true}

-- a part fails, so the whole is not so
pub refused : {P : Type 0} (A : Type 0) (test : Bool) → IsTrue test ↔ P → test ≡ false → (A → P) → IsTrue false ↔ A
refused A test told is part = (λ t. absurd (false≢true t), λ a. absurd (false≢true (sym is ∙ told.1 (part a))))

pub failed : {P : Type 0} (A : Type 0) (test : Bool) → IsTrue test ↔ P → test ≡ false → (A → P) → IsTrue test ↔ A
failed A test told is part = (λ t. absurd (false≢true (sym is ∙ t)), λ a. told.1 (part a))

-- the whole is so
pub accepted : (A : Type 0) → A → IsTrue true ↔ A
accepted A a = (λ _. a, λ _. refl)

-- the test is of the same fact in other words
pub reworded : {P : Type 0} (A : Type 0) (test : Bool) → IsTrue test ↔ P → (P → A) → (A → P) → IsTrue test ↔ A
reworded A test told to from = (λ t. to (told.0 t), λ a. told.1 (from a))

-- one more from a number on
pub more_between : (P : ℕ → Type 0) (a n : ℕ) → ((d : ℕ) → a ≤ d → d < n → P d) → P n → (d : ℕ) → a ≤ d → d < n + 1 → P d
more_between P a n each one d low high = below_more (λ (e : ℕ). a ≤ e → P e) n (λ e below from. each e from below) (λ _. one) d high low

-- what is below a number is below where a loop up to that number ended
pub before_end : (k n end i : ℕ) → k < n → end ≡ n → end ≤ i → k < i
before_end k n end i low same past = omega arith

pub not_so : {P : Type 0} (test : Bool) → IsTrue test ↔ P → test ≡ false → P → ⊥
not_so test told is p = absurd (false≢true (sym is ∙ told.1 p))

pub none_of : {A : Type 0} (found known : Option A) → is_some found ≡ false → found ≡ known → known ≡ None
none_of None known is same = sym same
none_of (Some x) known is same = absurd (false≢true (sym is))

pub some_none : {A : Type 0} (found known : Option A) → is_some found ≡ true → found ≡ known → known ≡ None → ⊥
some_none found known is same none = absurd (false≢true (sym (ap is_some (same ∙ none)) ∙ is))
