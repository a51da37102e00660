-- Lists of gears
use Rattle.std.specs.Prelude.{◌≡◌, ℕ, ◌+◌, ◌-◌, ◌≤◌, ◌<◌, List, [], ◌∷◌, ◌++◌, true, false, length, replicate, slice_index, slice_index_or, slice_set, refl, if◌then◌else◌}
use Rattle.std.proofs.Common.{arith, ap, sym, subst, inl, inr, ◌∙◌, zero, suc, add-one}
use Rattle.std.proofs.lemmas.List.{append_assoc, get_or_at, get_or_append_left, set_at, length-append}
use Rattle.std.proofs.lemmas.Bool.{cases_lt}
use Rattle.paraid_base.specs.declared.geometry.Geometry.{Geometry}
use Rattle.paraid_record.specs.Codes.{gears_below}
use Rattle.paraid_record.specs.Spelling.{zero_filled}

pub gears_below-yes : (g : Geometry) (a : ℕ) → slice_index_or g.gears a false ≡ true → gears_below g (suc a) ≡ gears_below g a ++ a ∷ []
unfolding gears_below
gears_below-yes g a e = rw e refl

pub gears_below-no : (g : Geometry) (a : ℕ) → slice_index_or g.gears a false ≡ false → gears_below g (suc a) ≡ gears_below g a
unfolding gears_below
gears_below-no g a e = rw e refl

-- a gear is 3 at least
pub length-gears_below : (g : Geometry) (a : ℕ) → length (gears_below g a) ≤ a - 3
unfolding gears_below
length-gears_below g zero = omega arith
length-gears_below g (suc a) =
    let before = length-gears_below g a in
    elim (slice_index_or g.gears a false) as (λ b. slice_index_or g.gears a false ≡ b → length (if b then gears_below g a ++ a ∷ [] else gears_below g a) ≤ suc a - 3) [
      | true ↦ λ e. let low = g.gears_low a e in let l = length-append (gears_below g a) (a ∷ []) in omega arith
      | false ↦ λ e. omega arith
    ] refl

pub filled_push : (size x : ℕ) (xs : List ℕ) → length xs < size → slice_set (zero_filled size xs) (length xs) x ≡ zero_filled size (xs ++ x ∷ [])
unfolding zero_filled
filled_push size x xs l =
    let n : size - length xs ≡ suc (size - (length xs + 1)) = omega arith in
    let m : length (xs ++ x ∷ []) ≡ length xs + 1 = length-append xs (x ∷ []) in
    ap (λ (k : ℕ). slice_set (xs ++ replicate k 0) (length xs) x) n
    ∙ set_at xs 0 (replicate (size - (length xs + 1)) 0) x (length xs) refl
    ∙ sym (append_assoc xs (x ∷ []) (replicate (size - (length xs + 1)) 0))
    ∙ ap (λ (k : ℕ). xs ++ x ∷ [] ++ replicate (size - k) 0) (sym m)

-- the list and the count after the test of number `a`
pub gear_step-yes : (g : Geometry) (a count count' : ℕ) (list list' : List ℕ) → a < 9 → slice_index_or g.gears a false ≡ true
    → list ≡ zero_filled 8 (gears_below g a) → count ≡ length (gears_below g a)
    → list' ≡ slice_set list count a → count' ≡ count + 1
    → (list' ≡ zero_filled 8 (gears_below g (a + 1))) × (count' ≡ length (gears_below g (a + 1)))
gear_step-yes g a count count' list list' small flagged e f e' f' =
    let few = length-gears_below g a in
    let grown : gears_below g (a + 1) ≡ gears_below g a ++ a ∷ [] = ap (gears_below g) (add-one a) ∙ gears_below-yes g a flagged in
    let pushed = filled_push 8 a (gears_below g a) (omega arith) in
    let long = length-append (gears_below g a) (a ∷ []) in (
      e' ∙ ap (λ (xs : List ℕ). slice_set xs count a) e ∙ ap (λ (n : ℕ). slice_set (zero_filled 8 (gears_below g a)) n a) f ∙ pushed ∙ ap (zero_filled 8) (sym grown),
      f' ∙ ap (λ (n : ℕ). n + 1) f ∙ sym long ∙ ap length (sym grown),
    )

pub gear_step-no : (g : Geometry) (a : ℕ) → slice_index_or g.gears a false ≡ false → gears_below g (a + 1) ≡ gears_below g a
gear_step-no g a flagged = ap (gears_below g) (add-one a) ∙ gears_below-no g a flagged

-- the gears below `a`, each once, in ascending order
pub record Ascends (g : Geometry) (a : ℕ) (xs : List ℕ) : Type 0 where
  pub below : (k : ℕ) → k < length xs → slice_index xs k < a
  pub member : (k : ℕ) → k < length xs → slice_index_or g.gears (slice_index xs k) false ≡ true
  pub ascend : (k : ℕ) → suc k < length xs → slice_index xs k < slice_index xs (suc k)
  pub has : (b : ℕ) → b < a → slice_index_or g.gears b false ≡ true → (k : ℕ) × (k < length xs) × (slice_index xs k ≡ b)

ascends_yes : (g : Geometry) (a : ℕ) (xs : List ℕ) → slice_index_or g.gears a false ≡ true → Ascends g a xs → Ascends g (suc a) (xs ++ a ∷ [])
ascends_yes g a xs flagged up =
    let long : length (xs ++ a ∷ []) ≡ length xs + 1 = length-append xs (a ∷ []) in
    let old : (k : ℕ) → k < length xs → slice_index (xs ++ a ∷ []) k ≡ slice_index xs k = λ k l. get_or_append_left xs (a ∷ []) 0 k l in
    let new : slice_index (xs ++ a ∷ []) (length xs) ≡ a = get_or_at xs a [] 0 (length xs) refl in
    record {
      below = λ k l. elim (cases_lt k (length xs)) [
        | inl h ↦ rw (old k h) (let b = up.below k h in omega arith)
        | inr h ↦ let e : k ≡ length xs = omega arith in rw (e, new) (omega arith)
      ];
      member = λ k l. elim (cases_lt k (length xs)) [
        | inl h ↦ rw (old k h) (up.member k h)
        | inr h ↦ let e : k ≡ length xs = omega arith in rw (e, new) flagged
      ];
      ascend = λ k l. elim (cases_lt (suc k) (length xs)) [
        | inl h ↦ let here : k < length xs = omega arith in rw (old k here, old (suc k) h) (up.ascend k h)
        | inr h ↦
            let here : k < length xs = omega arith in
            let e : suc k ≡ length xs = omega arith in
            let b = up.below k here in
            rw (old k here, e, new) b
      ];
      has = λ b l e. elim (cases_lt b a) [
        | inl h ↦
            let found = up.has b h e in
            (found.0, omega (arith, found.1), old found.0 found.1 ∙ found.2)
        | inr h ↦ let same : a ≡ b = omega arith in (length xs, omega arith, new ∙ same)
      ];
    }

ascends_no : (g : Geometry) (a : ℕ) (xs : List ℕ) → slice_index_or g.gears a false ≡ false → Ascends g a xs → Ascends g (suc a) xs
ascends_no g a xs flagged up = record {
  below = λ k l. let b = up.below k l in omega arith;
  member = up.member;
  ascend = up.ascend;
  has = λ b l e. elim (cases_lt b a) [
    | inl h ↦ up.has b h e
    | inr h ↦
        let same : b ≡ a = omega arith in
        let clash : true ≡ false = sym e ∙ ap (λ (n : ℕ). slice_index_or g.gears n false) same ∙ flagged in
        absurd (cc)
  ];
}

no_gears : (g : Geometry) (k : ℕ) → k < length (gears_below g 0) → ⊥
unfolding gears_below
no_gears g k l = omega arith

pub ascends : (g : Geometry) (a : ℕ) → Ascends g a (gears_below g a)
ascends g zero = record {
  below = λ k l. absurd (no_gears g k l);
  member = λ k l. absurd (no_gears g k l);
  ascend = λ k l. absurd (no_gears g (suc k) l);
  has = λ b l e. absurd (omega arith);
}
ascends g (suc a) =
    let up = ascends g a in
    elim (slice_index_or g.gears a false) as (λ b. slice_index_or g.gears a false ≡ b → Ascends g (suc a) (gears_below g (suc a))) [
      | true ↦ λ e. let P : List ℕ → Type 0 = λ xs. Ascends g (suc a) xs in subst P (sym (gears_below-yes g a e)) (ascends_yes g a (gears_below g a) e up)
      | false ↦ λ e. let P : List ℕ → Type 0 = λ xs. Ascends g (suc a) xs in subst P (sym (gears_below-no g a e)) (ascends_no g a (gears_below g a) e up)
    ] refl
