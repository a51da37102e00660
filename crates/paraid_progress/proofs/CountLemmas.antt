-- Counts of dirty cells, and the first of some numbers.
use Rattle.std.proofs.Common.{◌≡◌, ℕ, zero, suc, ◌+◌, ◌<◌, ◌≤◌, Bool, true, false, Option, Some, None, refl, sym, subst, arith, inl, inr, if◌then◌else◌}
use Rattle.std.specs.Prelude.{◌==◌, ◌&&◌, nat_le}
use Rattle.std.proofs.lemmas.Bool.{cases_eq, cases_lt, true≢false}
use Rattle.std.proofs.lemmas.Bool.Decides.{nat_tests}
use Rattle.paraid_base.specs.Gears.{first_from}
use Rattle.paraid_base.specs.Sums.{sum_before}
use Rattle.paraid_dirty.specs.Table.{cell_count, dirty_count, row_count, table_with_bit}

-- the first number that passes is one of those asked about, and passes
pub record IsFound (p : ℕ → Bool) (at n b : ℕ) : Type 0 where
  pub low : at ≤ b
  pub high : b < at + n
  pub is : p b ≡ true

pub first_found : (p : ℕ → Bool) (at n b : ℕ) → first_from p at n ≡ Some b → IsFound p at n b
unfolding first_from
first_found p at zero b is = absurd (none_some is)
  where
    none_some : ◌≡◌ {A = Option ℕ} None (Some b) → ⊥
    none_some e = cc
first_found p at (suc n) b is = by (p at) refl (first_found p (at + 1) n b) is
  where
    same : (x y : ℕ) → ◌≡◌ {A = Option ℕ} (Some x) (Some y) → x ≡ y
    same x y e = cc

    by : (here : Bool) → p at ≡ here → (first_from p (at + 1) n ≡ Some b → IsFound p (at + 1) n b) → (if here then Some at else first_from p (at + 1) n) ≡ Some b → IsFound p at (suc n) b
    by true here others found = (let e = same at b found in record { low = omega (arith, e); high = omega (arith, e); is = subst (λ (x : ℕ). p x ≡ true) e here })
    by false here others found =
        let later = others found in
        record { low = (let l = later.low in omega (arith, l)); high = (let l = later.high in omega (arith, l)); is = later.is }

-- where none passes
pub none_found : (p : ℕ → Bool) (at n : ℕ) → first_from p at n ≡ None → (e : ℕ) → at ≤ e → e < at + n → p e ≡ false
unfolding first_from
none_found p at zero is e low high = absurd (omega arith)
none_found p at (suc n) is e low high = by (p at) refl (λ none below. none_found p (at + 1) n none e below (omega arith)) is
  where
    some_none : (x : ℕ) → ◌≡◌ {A = Option ℕ} (Some x) None → ⊥
    some_none x k = cc

    by : (here : Bool) → p at ≡ here → (first_from p (at + 1) n ≡ None → at + 1 ≤ e → p e ≡ false) → (if here then Some at else first_from p (at + 1) n) ≡ None → p e ≡ false
    by true here others found = absurd (some_none at found)
    by false here others found = elim (cases_eq e at) [
      | inl this ↦ subst (λ (x : ℕ). p x ≡ false) (sym this) here
      | inr apart ↦ others found (omega arith)
    ]

sum_more : (f : ℕ → ℕ) (g : ℕ → ℕ) (n : ℕ) → ((x : ℕ) → x < n → f x ≤ g x) → sum_before f n ≤ sum_before g n
unfolding sum_before
sum_more f g zero each = omega arith
sum_more f g (suc n) each =
    let before = sum_more f g n (λ x low. each x (omega arith)) in
    let here = each n (omega arith) in
    omega (arith, before, here)

sum_zeros : (n : ℕ) → sum_before (λ x. 0) n ≡ 0
unfolding sum_before
sum_zeros zero = refl
sum_zeros (suc n) = (let before = sum_zeros n in omega (arith, before))

-- no more are dirty where each that is dirty was so before
pub count_no_more : (after before : ℕ → ℕ → Bool) (rows lo hi : ℕ) → ((r d : ℕ) → lo ≤ d → d < hi → after r d ≡ true → before r d ≡ true)
    → dirty_count after rows lo hi ≤ dirty_count before rows lo hi
count_no_more after before rows lo hi was =
    sum_more (row_count after lo hi) (row_count before lo hi) rows
    (λ r low. sum_more (cell_count after lo r) (cell_count before lo r) hi (λ d high. by r d high (after r d) (before r d) (λ from. was r d from high)))
  where
    by : (r d : ℕ) → d < hi → (a b : Bool) → (lo ≤ d → a ≡ true → b ≡ true) → (if nat_le lo d && a then 1 else 0) ≤ (if nat_le lo d && b then 1 else 0)
    by r d high true false each = elim (cases_lt d lo) [
      | inl under ↦ grind (arith, nat_tests)
      | inr from ↦ (let e = each (omega arith) refl in absurd (true≢false (sym e)))
    ]
    by r d high true true each = omega arith
    by r d high false b each = grind (arith, nat_tests)

sum_less : (f : ℕ → ℕ) (g : ℕ → ℕ) (i n : ℕ) → i < n → ((x : ℕ) → x < n → f x ≤ g x) → f i < g i → sum_before f n < sum_before g n
unfolding sum_before
sum_less f g i zero low each less = absurd (omega arith)
sum_less f g i (suc n) low each less = elim (cases_eq i n) [
  | inl this ↦
      (let before = sum_more f g n (λ x under. each x (omega arith)) in
      let here : f n < g n = subst (λ (x : ℕ). f x < g x) this less in
      omega (arith, before, here))
  | inr apart ↦
      (let before = sum_less f g i n (omega arith) (λ x under. each x (omega arith)) less in
      let here = each n (omega arith) in
      omega (arith, before, here))
]

-- fewer are dirty once a dirty one is cleaned
pub count_fewer : (dirty : ℕ → ℕ → Bool) (rows lo hi r d : ℕ) → r < rows → lo ≤ d → d < hi → dirty r d ≡ true
    → dirty_count (table_with_bit dirty r d false) rows lo hi < dirty_count dirty rows lo hi
count_fewer dirty rows lo hi r d row low high is =
    let after = table_with_bit dirty r d false in
    let cells : (q e : ℕ) → cell_count after lo q e ≤ cell_count dirty lo q e = λ q e. each q e (dirty q e) (nat_le lo e) in
    sum_less (row_count after lo hi) (row_count dirty lo hi) r rows row
    (λ q under. sum_more (cell_count after lo q) (cell_count dirty lo q) hi (λ e m. cells q e))
    (sum_less (cell_count after lo r) (cell_count dirty lo r) d hi high (λ e m. cells r e) (here (dirty r d) is))
  where
    each : (q e : ℕ) (b low_e : Bool) → (if low_e && (if q == r && e == d then false else b) then 1 else 0) ≤ (if low_e && b then 1 else 0)
    each q e b low_e = grind (arith, nat_tests)

    here : (b : Bool) → b ≡ true → (if nat_le lo d && (if r == r && d == d then false else b) then 1 else 0) < (if nat_le lo d && b then 1 else 0)
    here b dirty_here = grind (arith, nat_tests)

-- none is dirty
pub count_none : (dirty : ℕ → ℕ → Bool) (rows lo hi : ℕ) → ((r d : ℕ) → r < rows → lo ≤ d → d < hi → dirty r d ≡ false) → dirty_count dirty rows lo hi ≡ 0
count_none dirty rows lo hi clean =
    sum_none (row_count dirty lo hi) rows (λ r low. sum_none (cell_count dirty lo r) hi (λ d high. by r d low high (dirty r d) (λ from. clean r d low from high)))
  where
    sum_none : (f : ℕ → ℕ) (n : ℕ) → ((x : ℕ) → x < n → f x ≡ 0) → sum_before f n ≡ 0
    sum_none f n none = (let few = sum_more f (λ x. 0) n (λ x low. (let e = none x low in omega (arith, e))) in let zeros = sum_zeros n in omega (arith, few, zeros))

    by : (r d : ℕ) → r < rows → d < hi → (b : Bool) → (lo ≤ d → b ≡ false) → ◌≡◌ {A = ℕ} (if nat_le lo d && b then 1 else 0) 0
    by r d low high b is = elim (cases_lt d lo) [
      | inl under ↦ grind (arith, nat_tests)
      | inr from ↦ (let e = is (omega arith) in rw e (grind (arith, nat_tests)))
    ]
