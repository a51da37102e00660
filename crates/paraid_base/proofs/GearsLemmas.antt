-- The next gears are those that a geometry answers
use Rattle.std.proofs.Common.{◌≡◌, ℕ, ◌<◌, ◌≤◌, ◌+◌, zero, suc, Bool, true, false, Option, Some, None, MatchOption, get_or, refl, ap, arith, inl, inr}
use Rattle.std.proofs.lemmas.Bool.{cases_eq}
use Rattle.paraid_base.specs.declared.geometry.Geometry.{Geometry}
use Rattle.paraid_base.specs.Regions.{IsGear}
use Rattle.paraid_base.specs.Gears.{first_from, last_below, is_gear, next_higher, next_lower}

pub first_from-none : (p : ℕ → Bool) (at n : ℕ) → ((e : ℕ) → at ≤ e → e < at + n → p e ≡ false) → first_from p at n ≡ None
unfolding first_from
first_from-none p at zero none = refl
first_from-none p at (suc n) none =
    rw (none at (omega arith) (omega arith)) (first_from-none p (at + 1) n (λ e low high. none e (omega arith) (omega arith)))

pub first_from-some : (p : ℕ → Bool) (at n b : ℕ) → at ≤ b → b < at + n → p b ≡ true → ((e : ℕ) → at ≤ e → e < b → p e ≡ false) → first_from p at n ≡ Some b
unfolding first_from
first_from-some p at zero b low high is before = absurd (omega arith)
first_from-some p at (suc n) b low high is before =
    elim (cases_eq at b) [
      | inl same ↦ (let here : p at ≡ true = rw same is in rw here (ap Some same))
      | inr other ↦
          rw (before at (omega arith) (omega arith))
          (first_from-some p (at + 1) n b (omega arith) (omega arith) is (λ e from under. before e (omega arith) under))
    ]

pub last_below-none : (p : ℕ → Bool) (n : ℕ) → ((e : ℕ) → e < n → p e ≡ false) → last_below p n ≡ None
unfolding last_below
last_below-none p zero none = refl
last_below-none p (suc n) none = rw (none n (omega arith)) (last_below-none p n (λ e low. none e (omega arith)))

pub last_below-some : (p : ℕ → Bool) (n b : ℕ) → b < n → p b ≡ true → ((e : ℕ) → b < e → e < n → p e ≡ false) → last_below p n ≡ Some b
unfolding last_below
last_below-some p zero b high is after = absurd (omega arith)
last_below-some p (suc n) b high is after =
    elim (cases_eq n b) [
      | inl same ↦ (let here : p n ≡ true = rw same is in rw here (ap Some same))
      | inr other ↦ rw (after n (omega arith) (omega arith)) (last_below-some p n b (omega arith) is (λ e low under. after e low (omega arith)))
    ]

-- what `Geometry::higher` ensures of its answer
abbrev pub IsHigher : Geometry → ℕ → Option ℕ → Type 0
IsHigher g a answer =
    MatchOption answer
    ((e : ℕ) → a < e → get_or g.gears e false ≡ false)
    (λ b. (a < b) × IsGear g b × ((e : ℕ) → a < e → e < b → get_or g.gears e false ≡ false))

-- what `Geometry::lower` ensures of its answer
abbrev pub IsLower : Geometry → ℕ → Option ℕ → Type 0
IsLower g a answer =
    MatchOption answer
    ((e : ℕ) → e < a → get_or g.gears e false ≡ false)
    (λ b. (b < a) × IsGear g b × ((e : ℕ) → b < e → e < a → get_or g.gears e false ≡ false))

pub next_higher-is : (g : Geometry) (a : ℕ) (answer : Option ℕ) → IsHigher g a answer → next_higher g a ≡ answer
next_higher-is g a None none = first_from-none (is_gear g) (a + 1) 8 (λ e low high. none e (omega arith))
next_higher-is g a (Some b) next =
    let small : b ≤ g.disks = g.gears_high b next.1 in
    first_from-some (is_gear g) (a + 1) 8 b (omega (arith, next.0)) (omega (arith, g.disks_high)) next.1 (λ e low high. next.2 e (omega arith) high)

pub next_lower-is : (g : Geometry) (a : ℕ) (answer : Option ℕ) → IsLower g a answer → next_lower g a ≡ answer
next_lower-is g a None none = last_below-none (is_gear g) a none
next_lower-is g a (Some b) next = last_below-some (is_gear g) a b next.0 next.1 next.2
