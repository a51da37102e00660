-- The first bit of some disks, word by word
use Rattle.std.specs.Prelude.{◌≡◌, ℕ, ◌+◌, ◌-◌, ◌*◌, ◌/◌, ◌%◌, ◌^◌, ◌<◌, ◌≤◌, ◌&&◌, nat_le, nat_lt, Bool, true, false, List, length, get_or, max, min, refl}
use Rattle.std.proofs.Common.{arith, ap, inl, inr, sym, ◌∙◌, bit_and}
use Rattle.std.proofs.lemmas.Bool.{cases_lt}
use Rattle.std.proofs.Math.Nat.{div-mul-le_self, mul_comm}
use Rattle.paraid_dirty.specs.Bits.{bit_of, bit_in, on_disks, AreClear, IsFirstBit}
use Rattle.paraid_dirty.proofs.BitsLemmas.{bit_in-past, bit_of-zero, masked_bit, parts_of, within_word}

and_false : (b : Bool) → (b && false) ≡ false
and_false true = refl
and_false false = refl

-- a bit of the word at `at`, in the word and in all words
on_word : (words : List ℕ) (at lo hi k : ℕ) → k / 64 ≡ at → on_disks lo hi (bit_of (get_or words at 0)) (k % 64) ≡ on_disks lo hi (bit_in words) k
unfolding bit_in
on_word words at lo hi k is =
    let row : k % 64 % 8 ≡ k % 8 = omega arith in
    ap (λ (n : ℕ). (nat_le lo n && nat_lt n hi) && bit_of (get_or words at 0) (k % 64)) row
    ∙ ap (λ (n : ℕ). (nat_le lo (k % 8) && nat_lt (k % 8) hi) && bit_of (get_or words n 0) (k % 64)) (sym is)

abbrev pub masked : List ℕ → ℕ → ℕ → ℕ → ℕ
masked words at lo hi = bit_and (get_or words at 0) ((2 ^ hi - 2 ^ lo) * 72340172838076673)

pub on_masked : (words : List ℕ) (at lo hi k : ℕ) → hi ≤ 8 → k / 64 ≡ at → bit_of (masked words at lo hi) (k % 64) ≡ on_disks lo hi (bit_in words) k
on_masked words at lo hi k high is = masked_bit (get_or words at 0) lo hi (k % 64) high (within_word k) ∙ on_word words at lo hi k is

pub on_clear : (words : List ℕ) (lo hi k : ℕ) → bit_in words k ≡ false → on_disks lo hi (bit_in words) k ≡ false
on_clear words lo hi k e = ap (λ (b : Bool). (nat_le lo (k % 8) && nat_lt (k % 8) hi) && b) e ∙ and_false (nat_le lo (k % 8) && nat_lt (k % 8) hi)

-- before the word of `from` there is nothing to look at
pub nothing_before : (bit : ℕ → Bool) (from size : ℕ) → 0 < size → AreClear bit from (size * (from / size))
nothing_before bit from size some = record {
  clear = λ k low high. absurd (let e = div-mul-le_self from size in let c = mul_comm size (from / size) in omega arith);
}

-- one more word has none of the bits
pub word_passed : (words : List ℕ) (at from lo hi low word : ℕ) → hi ≤ 8 → low ≡ from - 64 * at → word ≡ masked words at lo hi
    → AreClear (bit_of word) low 64 → AreClear (on_disks lo hi (bit_in words)) from (64 * at) → AreClear (on_disks lo hi (bit_in words)) from (64 * (at + 1))
word_passed words at from lo hi low word high is_low is_word here before = record {
  clear = λ k k_from k_until. elim (cases_lt k (64 * at)) [
    | inl under ↦ before.clear k k_from under
    | inr inside ↦
        let parts = parts_of k in
        let within = within_word k in
        let is : k / 64 ≡ at = omega arith in
        sym (on_masked words at lo hi k high is)
        ∙ ap (λ (w : ℕ). bit_of w (k % 64)) (sym is_word)
        ∙ here.clear (k % 64) (omega arith) within
  ];
}

-- the first bit is in this word
pub word_found : (words : List ℕ) (at from lo hi low word i : ℕ) → hi ≤ 8 → low ≡ from - 64 * at → word ≡ masked words at lo hi → i < 64
    → IsFirstBit (bit_of word) low i → AreClear (on_disks lo hi (bit_in words)) from (64 * at) → IsFirstBit (on_disks lo hi (bit_in words)) from (64 * at + i)
word_found words at from lo hi low word i high is_low is_word small found before =
    let here : (k : ℕ) → k / 64 ≡ at → bit_of word (k % 64) ≡ on_disks lo hi (bit_in words) k =
    λ k is. ap (λ (w : ℕ). bit_of w (k % 64)) is_word ∙ on_masked words at lo hi k high is in
    let parts = parts_of (64 * at + i) in
    let within = within_word (64 * at + i) in
    let place : (64 * at + i) % 64 ≡ i = omega arith in
    let on = found.from_on in
    record {
      from_on = omega arith;
      is = sym (here (64 * at + i) (omega arith)) ∙ ap (bit_of word) place ∙ found.is;
      before = λ k k_from under. elim (cases_lt k (64 * at)) [
        | inl below ↦ before.clear k k_from below
        | inr inside ↦
            let k_parts = parts_of k in
            let k_within = within_word k in
            sym (here k (omega arith)) ∙ found.before (k % 64) (omega arith) (omega arith)
      ];
    }

-- 64 words without a mark are passed over
pub part_unmarked : (words marks : List ℕ) (part from lo hi : ℕ) → get_or marks part 0 ≡ 0
    → ((w : ℕ) → bit_in marks w ≡ false → get_or words w 0 ≡ 0)
    → AreClear (on_disks lo hi (bit_in words)) from (4096 * part) → AreClear (on_disks lo hi (bit_in words)) from (4096 * (part + 1))
unfolding bit_in
part_unmarked words marks part from lo hi none marked before = record {
  clear = λ k k_from k_until. elim (cases_lt k (4096 * part)) [
    | inl under ↦ before.clear k k_from under
    | inr inside ↦
        let is : k / 64 / 64 ≡ part = omega arith in
        let mark : bit_in marks (k / 64) ≡ false =
        ap (λ (n : ℕ). bit_of (get_or marks n 0) (k / 64 % 64)) is ∙ ap (λ (w : ℕ). bit_of w (k / 64 % 64)) none ∙ bit_of-zero (k / 64 % 64) in
        on_clear words lo hi k (ap (λ (w : ℕ). bit_of w (k % 64)) (marked (k / 64) mark) ∙ bit_of-zero (k % 64))
  ];
}

pub part_passed : (words : List ℕ) (part from start until lo hi : ℕ) → start ≡ max from (4096 * part) → until ≡ min (length words) (64 * part + 64)
    → AreClear (on_disks lo hi (bit_in words)) start (64 * until)
    → AreClear (on_disks lo hi (bit_in words)) from (4096 * part) → AreClear (on_disks lo hi (bit_in words)) from (4096 * (part + 1))
part_passed words part from start until lo hi is_start is_until here before = record {
  clear = λ k k_from k_until. elim (cases_lt k (4096 * part)) [
    | inl under ↦ before.clear k k_from under
    | inr inside ↦ elim (cases_lt k (64 * until)) [
      | inl low ↦ here.clear k (omega arith) low
      | inr past ↦ on_clear words lo hi k (bit_in-past words k (omega arith))
    ]
  ];
}

pub part_found : (words : List ℕ) (part from start lo hi p : ℕ) → start ≡ max from (4096 * part)
    → IsFirstBit (on_disks lo hi (bit_in words)) start p
    → AreClear (on_disks lo hi (bit_in words)) from (4096 * part) → IsFirstBit (on_disks lo hi (bit_in words)) from p
part_found words part from start lo hi p is_start found before =
    let on = found.from_on in
    record {
      from_on = omega arith;
      is = found.is;
      before = λ k k_from under. elim (cases_lt k (4096 * part)) [
        | inl low ↦ before.clear k k_from low
        | inr inside ↦ found.before k (omega arith) under
      ];
    }
