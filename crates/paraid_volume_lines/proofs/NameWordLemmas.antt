-- The letters of a name in memory.
use Rattle.std.proofs.Common.{◌≡◌, ℕ, ◌<◌, ◌≤◌, ◌∙◌, List, length, take, get_or, Bool, true, false, refl, sym, ap, arith, inl, inr}
use Rattle.std.specs.Prelude.{slice_index, slice_index_or}
use Rattle.std.specs.List.{position_or_len}
use Rattle.std.proofs.lemmas.Bool.{and_from, and_parts, cases_lt, eqb-true, le-leb, leb-true, ne_eqb}
use Rattle.std.proofs.lemmas.List.{ext_get_or, get_or-take, get_or_past, length-take-le}
use Rattle.std.proofs.lemmas.List.Elements.{All-from_get_or, All-get_or}
use Rattle.std.proofs.lemmas.List.Sums.{AllPass-from_list_all, fails_before_first, list_all-from_AllPass, passes_at_first, position_or_len_is}
use Rattle.paraid_volume.specs.declared.name.Name.{Name}
use Rattle.paraid_volume.specs.Names.{IsName, is_letter}
use Rattle.paraid_volume.specs.NameValues.{letter_of}
use Rattle.paraid_volume.proofs.NameLemmas.{first_letters, first_name}
use Rattle.paraid_volume_lines.specs.LineValues.{is_name}
use Rattle.paraid_volume_lines.specs.NameWords.{is_zero, word_of}

-- ---- bytes that are a name

pub IsName-is_name : (bytes : List ℕ) → IsName bytes → is_name bytes ≡ true
unfolding is_name
IsName-is_name bytes h =
    and_from _ _ (and_from _ _ (le-leb _ _ h.some) (le-leb _ _ h.few))
    (list_all-from_AllPass is_letter bytes (All-from_get_or (λ c. is_letter c ≡ true) bytes 0 h.letters))

pub is_name-IsName : (bytes : List ℕ) → is_name bytes ≡ true → IsName bytes
unfolding is_name
is_name-IsName bytes h =
    let parts = and_parts _ _ h in
    let sizes = and_parts _ _ parts.0 in
    record {
      some = leb-true _ _ sizes.0;
      few = leb-true _ _ sizes.1;
      letters = λ k l. All-get_or (λ c. is_letter c ≡ true) bytes k 0 l (AllPass-from_list_all is_letter bytes parts.1);
    }

pub no_name : (bytes : List ℕ) → (IsName bytes → ⊥) → is_name bytes ≡ false
no_name bytes not = of (is_name bytes) refl
  where
    of : (b : Bool) → is_name bytes ≡ b → is_name bytes ≡ false
    of true is = absurd (not (is_name-IsName bytes is))
    of false is = is

-- ---- the letters of a name

not_zero : (c : ℕ) → is_letter c ≡ true → is_zero c ≡ false
not_zero c h = ne_eqb c 0 (λ e. let no = sym (ap is_letter e) ∙ h in cc)

-- a name that was made of these bytes has them as its letters
pub word_is : (name : Name) (bytes : List ℕ) → IsName bytes → ((k : ℕ) → k < 16 → slice_index name.text k ≡ slice_index_or bytes k 0) → word_of name ≡ bytes
unfolding word_of
word_is name bytes is same =
    let n = length bytes in
    let whole = name.whole in
    let few = is.few in
    let end : position_or_len is_zero name.text ≡ n = position_or_len_is is_zero name.text n 0 (omega (arith, whole, few))
    (λ k l. let e : get_or name.text k 0 ≡ get_or bytes k 0 = same k (omega (arith, l, few)) in ap is_zero e ∙ not_zero (get_or bytes k 0) (is.letters k l))
    (λ l. let e : get_or name.text n 0 ≡ get_or bytes n 0 = same n (omega (arith, l, whole)) in ap is_zero (e ∙ get_or_past bytes n 0 (omega arith))) in
    let long : length (take n name.text) ≡ n = length-take-le n name.text (omega (arith, whole, few)) in
    ap (λ (k : ℕ). take k name.text) end ∙ ext_get_or 0 (take n name.text) bytes long (λ i l.
    let below : i < n = omega (arith, l, long) in
    get_or-take n name.text i 0 below ∙ same i (omega (arith, below, few)))

-- the first zero of a name
module _ (name : Name) where
  at : ℕ
  at = position_or_len is_zero name.text

  at_few : at ≤ 16
  unfolding at
  at_few = elim (cases_lt 16 at) [
    | inl past ↦
        let no = fails_before_first is_zero name.text 16 0 past in
        let zero_past : get_or name.text 16 0 ≡ 0 = get_or_past name.text 16 0 (let w = name.whole in omega (arith, w)) in
        let yes' : is_zero (get_or name.text 16 0) ≡ true = ap is_zero zero_past in
        let x = sym no ∙ yes' in cc
    | inr within ↦ within
  ]

  some : (k : ℕ) → k < at → 0 < slice_index name.text k
  unfolding at
  some k l = elim (cases_lt 0 (slice_index name.text k)) [
    | inl more ↦ more
    | inr none ↦
        let no = fails_before_first is_zero name.text k 0 l in
        let zero_k : get_or name.text k 0 ≡ 0 = omega (arith, none) in
        let x = sym no ∙ ap is_zero zero_k in cc
  ]

  end : at < 16 → slice_index name.text at ≡ 0
  unfolding at
  end l = eqb-true _ _ (passes_at_first is_zero name.text 0 (let w = name.whole in omega (arith, l, w)))

  pub word_is_name : IsName (word_of name)
  unfolding word_of at
  word_is_name = first_name name.text at name.whole name.field at_few some name.some end

  pub spells : (k : ℕ) → k < 16 → slice_index_or (word_of name) k 0 ≡ letter_of name k
  unfolding word_of at
  spells = first_letters name.text at name.whole name.field at_few some end
