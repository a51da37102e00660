-- Numbers with some of their bits alone
use Rattle.std.proofs.Common.{◌≡◌, ℕ, ◌<◌, ◌≤◌, ◌+◌, ◌-◌, ◌*◌, ◌/◌, ◌%◌, ◌^◌, zero, suc, bit_and, refl, sym, ◌∙◌, ap, arith, inl, inr}
use Rattle.std.specs.Int.{bit_at}
use Rattle.std.specs.Int.Count.{ones}
use Rattle.std.proofs.lemmas.Bool.{cases_lt}
use Rattle.std.proofs.lemmas.Nat.{ones_le_self, zero_from_ones, pow_pos, and_le_r, ones_cat, div-add-mod', mod_below, div_below}
use Rattle.std.proofs.lemmas.Nat.Bits.{bit_at_and, bit_at-lt, bit_at_cat_low, bit_at_mask_inside, bit_at_mask_below, bit_at_mask_above}
use Rattle.std.proofs.Math.Nat.{pow-suc}
use Rattle.paraid_base.specs.Sums.{sum_before}

pub sum_before_same : (f g : ℕ → ℕ) (n : ℕ) → ((d : ℕ) → d < n → f d ≡ g d) → sum_before f n ≡ sum_before g n
unfolding sum_before
sum_before_same f g zero same = refl
sum_before_same f g (suc n) same =
    let before = sum_before_same f g n (λ d low. same d (omega arith)) in
    let here = same n (omega arith) in
    omega arith

pub ones_one : (a : ℕ) → a < 2 → ones a ≡ a
ones_one a small =
    elim (cases_lt 0 (ones a)) [
      | inl some ↦ omega (arith, ones_le_self a)
      | inr none ↦ (let is : ones a ≡ 0 = omega arith in let zero_a : a ≡ 0 = zero_from_ones a is in omega arith)
    ]

-- a number of `k` bits has as many ones as its bits add up to
pub ones_bits : (k n : ℕ) → n < 2 ^ k → ones n ≡ sum_before (bit_at n) k
unfolding sum_before
ones_bits zero n small =
    let none : n ≡ 0 = omega arith in
    let zeros : ones n ≡ 0 = omega (arith, ones_le_self n) in
    zeros
ones_bits (suc k) n small =
    let top = n / 2 ^ k in
    let rest = n % 2 ^ k in
    let split : top * 2 ^ k + rest ≡ n = div-add-mod' n (2 ^ k) in
    let rest_small : rest < 2 ^ k = mod_below n (2 ^ k) (pow_pos k) in
    let top_small : top < 2 = div_below n (2 ^ k) 2 (pow_pos k) (omega (arith, pow-suc 2 k)) in
    let cat : ones n ≡ ones top + ones rest = ap ones (sym split) ∙ ones_cat k top rest rest_small in
    let below : ones rest ≡ sum_before (bit_at n) k =
    ones_bits k rest rest_small
    ∙ sum_before_same (bit_at rest) (bit_at n) k (λ d low. sym (bit_at_cat_low top k rest d low) ∙ ap (λ x. bit_at x d) split) in
    omega (arith, cat, below, ones_one top top_small)

pub masked_inside : (byte lo hi d : ℕ) → lo ≤ d → d < hi → bit_at (bit_and byte (2 ^ hi - 2 ^ lo)) d ≡ bit_at byte d
masked_inside byte lo hi d low high =
    omega (arith, bit_at_and byte (2 ^ hi - 2 ^ lo) d, bit_at_mask_inside lo hi d low high, bit_at-lt byte d)

pub masked_below : (byte lo hi d : ℕ) → d < lo → bit_at (bit_and byte (2 ^ hi - 2 ^ lo)) d ≡ 0
masked_below byte lo hi d low =
    omega (arith, bit_at_and byte (2 ^ hi - 2 ^ lo) d, bit_at_mask_below lo hi d low)

pub masked_above : (byte lo hi d : ℕ) → hi ≤ d → bit_at (bit_and byte (2 ^ hi - 2 ^ lo)) d ≡ 0
masked_above byte lo hi d high =
    omega (arith, bit_at_and byte (2 ^ hi - 2 ^ lo) d, bit_at_mask_above lo hi d high)

-- a bit that is left is on the disks of the mask
pub masked_from : (byte lo hi d : ℕ) → bit_at (bit_and byte (2 ^ hi - 2 ^ lo)) d ≡ 1 → (lo ≤ d) × (d < hi)
masked_from byte lo hi d set =
    elim (cases_lt d lo) [
      | inl low ↦ absurd (omega (arith, masked_below byte lo hi d low))
      | inr from ↦ elim (cases_lt d hi) [ inl inside ↦ (from, inside) | inr high ↦ absurd (omega (arith, masked_above byte lo hi d high)) ]
    ]

pub masked_small : (byte lo hi : ℕ) → bit_and byte (2 ^ hi - 2 ^ lo) < 2 ^ hi
masked_small byte lo hi = omega (arith, and_le_r byte (2 ^ hi - 2 ^ lo), pow_pos lo, pow_pos hi)
