-- Names in 16 bytes.
use Rattle.std.proofs.Common.{◌≡◌, ℕ, ◌-◌, ◌<◌, ◌≤◌, ◌∙◌, List, length, take, sym, ap, arith, subst, inl, inr, zero, suc}
use Rattle.std.specs.Prelude.{slice_index, slice_index_or, true}
use Rattle.std.proofs.lemmas.Bool.{cases_eq, cases_lt}
use Rattle.std.proofs.lemmas.List.{get_or-take, get_or_past, length-take-le}
use Rattle.paraid_volume.specs.Names.{IsField, IsName, is_letter}

-- only zeros follow a zero
field_past : (byte : ℕ → ℕ) → IsField byte → (at k : ℕ) → byte at ≡ 0 → at ≤ k → k < 16 → byte k ≡ 0
field_past byte field at zero is l m = let same : at ≡ 0 = omega (arith, l) in subst (λ (x : ℕ). byte x ≡ 0) same is
field_past byte field at (suc k) is l m = elim (cases_eq at (suc k)) [
  | inl same ↦ subst (λ (x : ℕ). byte x ≡ 0) same is
  | inr not ↦
      let before : byte k ≡ 0 = field_past byte field at k is (omega (arith, l, not)) (omega (arith, m)) in
      elim (cases_eq (byte (suc k)) 0) [
        | inl none ↦ none
        | inr some ↦
            let e : suc k - 1 ≡ k = omega arith in
            let follows = (field (suc k) m).follows (omega (arith, some)) (omega arith) in
            let last : 0 < byte k = subst (λ (x : ℕ). 0 < byte x) e follows in
            let no : ⊥ = omega (arith, before, last) in absurd no
      ]
]

module _ (text : List ℕ) (at : ℕ) (whole : length text ≡ 16) (field : IsField (slice_index text)) (few : at ≤ 16) (some : (k : ℕ) → k < at → 0 < slice_index text k) where
  long : length (take at text) ≡ at
  long = length-take-le at text (omega (arith, whole, few))

  pub first_name : 0 < slice_index text 0 → (at < 16 → slice_index text at ≡ 0) → IsName (take at text)
  first_name first end =
      let many = long in
      record {
        some = elim (cases_eq at 0) [
          | inl none ↦
              let zero_at : slice_index text at ≡ 0 = end (omega (arith, none)) in
              let zero_first : slice_index text 0 ≡ 0 = subst (λ (x : ℕ). slice_index text x ≡ 0) none zero_at in
              let no : ⊥ = omega (arith, zero_first, first) in absurd no
          | inr more ↦ omega (arith, more, many)
        ];
        few = omega (arith, many, few);
        letters = λ k l.
            let below : k < at = omega (arith, l, many) in
            let is : is_letter (slice_index text k) ≡ true = (field k (omega (arith, below, few))).letter (some k below) in
            ap is_letter (get_or-take at text k 0 below) ∙ is;
      }

  pub first_letters : (at < 16 → slice_index text at ≡ 0) → (k : ℕ) → k < 16 → slice_index_or (take at text) k 0 ≡ slice_index text k
  first_letters end k l = elim (cases_lt k at) [
    | inl below ↦ get_or-take at text k 0 below
    | inr past ↦
        let many = long in
        let zero_k : slice_index text k ≡ 0 = field_past (slice_index text) field at k (end (omega (arith, past, l))) past l in
        get_or_past (take at text) k 0 (omega (arith, many, past)) ∙ sym zero_k
  ]
