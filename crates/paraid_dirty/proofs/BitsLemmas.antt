-- Bits of words
use Rattle.std.specs.Prelude.{◌≡◌, ◌≢◌, ℕ, ◌+◌, ◌-◌, ◌*◌, ◌/◌, ◌%◌, ◌^◌, ◌<◌, ◌≤◌, ◌==◌, ◌&&◌, nat_le, nat_lt, Bool, true, false, List, length, get_or, set, min, if◌then◌else◌, refl}
use Rattle.std.proofs.Common.{arith, ap, inl, inr, sym, ◌∙◌, zero, suc, bit_and, bit_or, w64, lit≤}
use Rattle.std.proofs.Math.Nat.{pow-le-pow_right}
use Rattle.std.specs.Int.{bit_at}
use Rattle.std.specs.Int.Count.{count_trailing_zeros}
use Rattle.std.proofs.lemmas.Bool.{cases_lt, cases_eq}
use Rattle.std.proofs.lemmas.Bool.Decides.{nat_tests}
use Rattle.std.proofs.lemmas.List.{get_or_past, get_or-set_same, get_or-set_other}
use Rattle.std.proofs.lemmas.Nat.{div-add-mod', mod_below, pow_pos}
use Rattle.std.proofs.lemmas.Nat.Bits.{bit_at-zero, bit_at-lt, bit_at_and, bit_at_cat_low, bit_at_cat_high, bit_at_mask_inside, bit_at_mask_below, bit_at_mask_above, bit_at_set_same, bit_at_set_other, bit_at_clear_same, bit_at_clear_other, bit_at-trailing_zeros, ones_shl}
use Rattle.paraid_dirty.specs.Bits.{bit_of, bit_in, on_disks, AreClear, IsFirstBit}
use Rattle.paraid_dirty.proofs.MaskLemmas.{masked_inside, masked_from, masked_small}

pub bit_true : (n i : ℕ) → bit_at n i ≡ 1 → bit_of n i ≡ true
bit_true n i e = ap (λ (b : ℕ). b == 1) e

pub bit_false : (n i : ℕ) → bit_at n i ≡ 0 → bit_of n i ≡ false
bit_false n i e = ap (λ (b : ℕ). b == 1) e

pub bit_of-zero : (i : ℕ) → bit_of 0 i ≡ false
bit_of-zero i = bit_false 0 i (bit_at-zero i)

pub chosen_here : (k at : ℕ) (x y : Bool) → k ≡ at → (if k == at then x else y) ≡ x
chosen_here k at x y same = grind (arith, nat_tests)

pub chosen_other : (k at : ℕ) (x y : Bool) → k ≢ at → (if k == at then x else y) ≡ y
chosen_other k at x y other = grind (arith, nat_tests)

pub parts_of : (k : ℕ) → k ≡ 64 * (k / 64) + k % 64
parts_of k = let e = div-add-mod' k 64 in omega arith

pub within_word : (k : ℕ) → k % 64 < 64
within_word k = mod_below k 64 (omega arith)

pub bit_in-past : (words : List ℕ) (p : ℕ) → 64 * length words ≤ p → bit_in words p ≡ false
unfolding bit_in
bit_in-past words p past =
    let parts = parts_of p in
    let low = within_word p in
    ap (λ (w : ℕ). bit_of w (p % 64)) (get_or_past words (p / 64) 0 (omega arith)) ∙ bit_of-zero (p % 64)

-- a word that differs from the one at `at` in one bit alone changes one bit
pub bit_in-set : (words : List ℕ) (at x : ℕ) (bit : Bool) → at / 64 < length words → bit_of x (at % 64) ≡ bit
    → ((i : ℕ) → i < 64 → i ≢ at % 64 → bit_of x i ≡ bit_of (get_or words (at / 64) 0) i)
    → (k : ℕ) → bit_in (set words (at / 64) x) k ≡ (if k == at then bit else bit_in words k)
unfolding bit_in
bit_in-set words at x bit room here others k =
    elim (cases_eq k at) [
      | inl same ↦
          ap (λ (n : ℕ). bit_of (get_or (set words (at / 64) x) (n / 64) 0) (n % 64)) same
          ∙ ap (λ (w : ℕ). bit_of w (at % 64)) (get_or-set_same words (at / 64) x 0 room)
          ∙ here
          ∙ sym (chosen_here k at bit (bit_of (get_or words (k / 64) 0) (k % 64)) same)
      | inr other ↦ elim (cases_eq (k / 64) (at / 64)) [
        | inl word ↦
            let apart : k % 64 ≢ at % 64 = λ e. other (parts_of k ∙ omega (arith, word, e) ∙ sym (parts_of at)) in
            ap (λ (n : ℕ). bit_of (get_or (set words (at / 64) x) n 0) (k % 64)) word
            ∙ ap (λ (w : ℕ). bit_of w (k % 64)) (get_or-set_same words (at / 64) x 0 room)
            ∙ others (k % 64) (within_word k) apart
            ∙ ap (λ (n : ℕ). bit_of (get_or words n 0) (k % 64)) (sym word)
            ∙ sym (chosen_other k at bit (bit_of (get_or words (k / 64) 0) (k % 64)) other)
        | inr word ↦
            ap (λ (w : ℕ). bit_of w (k % 64)) (get_or-set_other words (at / 64) (k / 64) x 0 word)
            ∙ sym (chosen_other k at bit (bit_of (get_or words (k / 64) 0) (k % 64)) other)
      ]
    ]

pub bit_is_set : (words : List ℕ) (at : ℕ) → at / 64 < length words
    → (k : ℕ) → bit_in (set words (at / 64) (bit_or (get_or words (at / 64) 0) (1 * 2 ^ (at % 64) % 18446744073709551616))) k ≡ (if k == at then true else bit_in words k)
bit_is_set words at room =
    let old = get_or words (at / 64) 0 in
    bit_in-set words at (bit_or old (1 * 2 ^ (at % 64) % 18446744073709551616)) true room
    (bit_true _ _ (bit_at_set_same w64 old (at % 64) (within_word at)))
    (λ i low other. ap (λ (b : ℕ). b == 1) (bit_at_set_other w64 old (at % 64) (within_word at) i other))

pub bit_is_clear : (words : List ℕ) (at : ℕ) → at / 64 < length words
    → (k : ℕ) → bit_in (set words (at / 64) (bit_and (get_or words (at / 64) 0) (18446744073709551615 - 1 * 2 ^ (at % 64) % 18446744073709551616))) k ≡ (if k == at then false else bit_in words k)
bit_is_clear words at room =
    let old = get_or words (at / 64) 0 in
    bit_in-set words at (bit_and old (18446744073709551615 - 1 * 2 ^ (at % 64) % 18446744073709551616)) false room
    (bit_false _ _ (bit_at_clear_same w64 old (at % 64) (within_word at)))
    (λ i low other. ap (λ (b : ℕ). b == 1) (bit_at_clear_other w64 old (at % 64) (within_word at) i low other))

pub rest_is : (word from : ℕ) → from < 64 → bit_and word (18446744073709551615 * 2 ^ from % 18446744073709551616) ≡ bit_and word (2 ^ 64 - 2 ^ from)
rest_is word from low = ap (bit_and word) (ones_shl 64 from (omega arith))

pub first_of_rest : (word from rest : ℕ) → from < 64 → rest ≡ bit_and word (2 ^ 64 - 2 ^ from) → rest ≢ 0
    → IsFirstBit (bit_of word) from (count_trailing_zeros 64 rest) × (count_trailing_zeros 64 rest < 64)
first_of_rest word from rest low is some =
    let small : rest < 2 ^ 64 = omega (arith, is, masked_small word from 64) in
    let place = count_trailing_zeros 64 rest in
    let found = bit_at-trailing_zeros w64 rest (omega arith) small in
    let bit : bit_at (bit_and word (2 ^ 64 - 2 ^ from)) place ≡ 1 = ap (λ (x : ℕ). bit_at x place) (sym is) ∙ found.1 in
    let inside = masked_from word from 64 place bit in (
      record {
        from_on = inside.0;
        is = bit_true word place (sym (masked_inside word from 64 place inside.0 inside.1) ∙ bit);
        before = λ k from_on under.
            bit_false word k (sym (masked_inside word from 64 k from_on (omega (arith, inside.1))) ∙ ap (λ (x : ℕ). bit_at x k) (sym is) ∙ found.2 k under);
      },
      inside.1,
    )

pub none_in_rest : (word from : ℕ) → bit_and word (2 ^ 64 - 2 ^ from) ≡ 0 → AreClear (bit_of word) from 64
none_in_rest word from none = record {
  clear = λ k low high. bit_false word k (sym (masked_inside word from 64 k low high) ∙ ap (λ (x : ℕ). bit_at x k) none ∙ bit_at-zero k);
}

-- a byte, `n` times
repeated : ℕ → ℕ → ℕ
repeated m zero = 0
repeated m (suc n) = repeated m n * 2 ^ 8 + m

repeated_bit : (m n i : ℕ) → m < 2 ^ 8 → i < 8 * n → bit_at (repeated m n) i ≡ bit_at m (i % 8)
unfolding repeated
repeated_bit m zero i small low = absurd (omega arith)
repeated_bit m (suc n) i small low = elim (cases_lt i 8) [
  | inl here ↦ bit_at_cat_low (repeated m n) 8 m i here ∙ ap (bit_at m) (let is : i ≡ i % 8 = omega arith in is)
  | inr above ↦
      bit_at_cat_high (repeated m n) 8 m i small above
      ∙ repeated_bit m n (i - 8) small (omega arith)
      ∙ ap (bit_at m) (let is : (i - 8) % 8 ≡ i % 8 = omega arith in is)
]

pub pattern_bit : (m i : ℕ) → m < 2 ^ 8 → i < 64 → bit_at (m * 72340172838076673) i ≡ bit_at m (i % 8)
unfolding repeated
pattern_bit m i small low =
    let is : m * 72340172838076673 ≡ repeated m 8 = omega arith in
    ap (λ (x : ℕ). bit_at x i) is ∙ repeated_bit m 8 i small low

both_bits : (a b : ℕ) (x y : Bool) → a < 2 → b < 2 → (b == 1) ≡ x → (a == 1) ≡ y → (min a b == 1) ≡ (x && y)
both_bits a b x y la lb is_x is_y = grind (arith, nat_tests)

mask_bit : (lo hi d : ℕ) → (bit_at (2 ^ hi - 2 ^ lo) d == 1) ≡ (nat_le lo d && nat_lt d hi)
mask_bit lo hi d = elim (cases_lt d lo) [
  | inl low ↦ ap (λ (b : ℕ). b == 1) (bit_at_mask_below lo hi d low) ∙ sym (grind (arith, nat_tests))
  | inr from ↦ elim (cases_lt d hi) [
    | inl inside ↦ ap (λ (b : ℕ). b == 1) (bit_at_mask_inside lo hi d from inside) ∙ sym (grind (arith, nat_tests))
    | inr above ↦ ap (λ (b : ℕ). b == 1) (bit_at_mask_above lo hi d above) ∙ sym (grind (arith, nat_tests))
  ]
]

-- of a word with the bits of some disks alone, each bit
pub masked_bit : (word lo hi i : ℕ) → hi ≤ 8 → i < 64 → bit_of (bit_and word ((2 ^ hi - 2 ^ lo) * 72340172838076673)) i ≡ on_disks lo hi (bit_of word) i
masked_bit word lo hi i high low =
    let mask = 2 ^ hi - 2 ^ lo in
    let top = pow-le-pow_right {n = 2} (lit≤ tt) high in
    let small : mask < 2 ^ 8 = omega (arith, top, pow_pos lo, pow_pos hi) in
    let pattern = mask * 72340172838076673 in
    ap (λ (b : ℕ). b == 1) (bit_at_and word pattern i)
    ∙ both_bits (bit_at word i) (bit_at pattern i) (nat_le lo (i % 8) && nat_lt (i % 8) hi) (bit_of word i) (bit_at-lt word i) (bit_at-lt pattern i)
    (ap (λ (b : ℕ). b == 1) (pattern_bit mask i small low) ∙ mask_bit lo hi (i % 8)) refl
