-- The spaces of a line
use Rattle.std.proofs.Common.{Bool, Option, unwrap_or, ◌≡◌, ℕ, ◌+◌, ◌<◌, ◌≤◌, List, [], ◌∷◌, ◌++◌, length, take, drop, get_or, Some, None, true, false, inl, inr, refl, sym, ap, ◌∙◌, arith}
use Rattle.std.specs.Prelude.{decimal}
use Rattle.std.specs.List.{AllPass, list_any, position, position_or_len}
use Rattle.std.specs.Char.{digit_value}
use Rattle.std.specs.Str.Parse.{AllDigits}
use Rattle.std.proofs.lemmas.Bool.{cases_Bool, cases_lt, cond-true, eqb-true, lt-ltb, ltb-true, ne_eqb, or_parts, or_from}
use Rattle.std.proofs.lemmas.List.{append_assoc, drop_at, length_push}
use Rattle.std.proofs.lemmas.List.Elements.{All-head, All-tail}
use Rattle.std.proofs.lemmas.List.Sums.{passes_at_first, position_or_len_is, split_at_first}
use Rattle.std.proofs.lemmas.Option.{cond_some}
use Rattle.std.proofs.lemmas.Fmt.{decimal_is_IsNumeral}
use Rattle.std.proofs.lemmas.Grind.{common_steps}
use Rattle.memchr.specs.Find.{IsFirstByte, is_byte}
use Rattle.hex.proofs.HexLemmas.{decode_of-ok}
use Rattle.hex.specs.Hex.{is_hex_digit}
use Rattle.paraid_base.specs.declared.block.Block.{Block}
use Rattle.paraid_trace.specs.Grammar.{IsHexOf, IsNumber}
use Rattle.paraid_trace.specs.LineEvents.{is_space}

-- ---- the first space

not_true : (b : Bool) → (b ≡ true → ⊥) → b ≡ false
not_true true h = absurd (h refl)
not_true false h = refl

-- the first space as a search for a byte finds it
pub place_found : (text : List ℕ) (r : Option ℕ) → IsFirstByte (is_byte 32) text r → unwrap_or r (length text) ≡ position_or_len is_space text
place_found text None none =
    sym (position_or_len_is is_space text (length text) 0 (omega arith) (λ k lt. not_true _ (none k (omega arith) lt)) (λ lt. absurd (omega arith)))
place_found text (Some at) (none, here) =
    sym (position_or_len_is is_space text at 0 (omega (arith, none.high)) (λ k lt. not_true _ (none.before k (omega arith) lt)) (λ lt. here))

-- the first space of a list whose front has none
pub position-at : (front rest : List ℕ) → list_any is_space front ≡ false → position_or_len is_space (front ++ 32 ∷ rest) ≡ length front
position-at [] rest h = refl
position-at (c ∷ front) rest h =
    let parts = or_parts (is_space c) (list_any is_space front) h in
    let more = position-at front rest parts.1 in
    rw parts.0 (omega arith)

pub space-at : (front rest : List ℕ) → list_any is_space front ≡ false → position is_space (front ++ 32 ∷ rest) ≡ Some (length front)
space-at front rest h =
    let at = position-at front rest h in
    let within : length front < length (front ++ 32 ∷ rest) = grind (arith, common_steps) in
    rw at (cond-true _ _ _ (lt-ltb _ _ within))

pub drop-front : (front rest : List ℕ) → drop (length front + 1) (front ++ 32 ∷ rest) ≡ rest
drop-front front rest = ap (drop (length front + 1)) (sym (append_assoc front (32 ∷ []) rest)) ∙ drop_at (front ++ 32 ∷ []) rest (length front + 1) (length_push front 32)

-- the end of a list that has no space
pub position-none : (front : List ℕ) → list_any is_space front ≡ false → position_or_len is_space front ≡ length front
position-none [] h = refl
position-none (c ∷ front) h =
    let parts = or_parts (is_space c) (list_any is_space front) h in
    let more = position-none front parts.1 in
    rw parts.0 (omega arith)

position_le : (xs : List ℕ) → position_or_len is_space xs ≤ length xs
position_le [] = omega arith
position_le (c ∷ xs) = elim (cases_Bool (is_space c)) [
  | inl yes' ↦ rw yes' (omega arith)
  | inr no' ↦ let more = position_le xs in rw no' (omega (arith, more))
]

-- where no space is found, the end is the place
pub position-end : (xs : List ℕ) → position is_space xs ≡ None → length xs ≡ position_or_len is_space xs
position-end xs e = elim (cases_lt (position_or_len is_space xs) (length xs)) [
  | inl within ↦ let found = sym (cond-true _ (Some (position_or_len is_space xs)) None (lt-ltb _ _ within)) ∙ e in cc
  | inr past ↦ let within = position_le xs in omega (arith, past, within)
]

-- a list is cut at its first space
pub cut : (line : List ℕ) (at : ℕ) → position is_space line ≡ Some at → line ≡ take at line ++ 32 ∷ drop (at + 1) line
cut line at e =
    let found = cond_some _ _ _ e in
    let within = ltb-true _ _ found.0 in
    let is : get_or line (position_or_len is_space line) 0 ≡ 32 = eqb-true _ _ (passes_at_first is_space line 0 within) in
    let whole = split_at_first is_space line 0 within in
    rw (is, found.1) at whole

-- ---- digits have no space

digit_not_space : (c : ℕ) → digit_value c < 10 → is_space c ≡ false
digit_not_space c h = ne_eqb c 32 (λ e. let small = ap digit_value e in omega arith)

digits_no_space : (digits : List ℕ) → AllDigits 10 digits → list_any is_space digits ≡ false
digits_no_space [] h = refl
digits_no_space (c ∷ digits) h = or_from _ _ (digit_not_space c h.0) (digits_no_space digits h.1)

pub number_no_space : (digits : List ℕ) (n : ℕ) → IsNumber digits n → list_any is_space digits ≡ false
number_no_space digits n h =
    let is = decimal_is_IsNumeral n (omega (arith, h.below)) in
    rw h.printed (digits_no_space (decimal n) is.0.1)

hex_not_space : (c : ℕ) → is_hex_digit c ≡ true → is_space c ≡ false
hex_not_space c h = ne_eqb c 32 (λ e. let no = sym (ap is_hex_digit e) ∙ h in cc)

hexes_no_space : (digits : List ℕ) → AllPass is_hex_digit digits → list_any is_space digits ≡ false
hexes_no_space [] h = refl
hexes_no_space (c ∷ digits) h = or_from _ _ (hex_not_space c (All-head (λ x. is_hex_digit x ≡ true) c digits h)) (hexes_no_space digits (All-tail (λ x. is_hex_digit x ≡ true) c digits h))

pub hex_no_space : (digits : List ℕ) (block : Block) → IsHexOf digits block → list_any is_space digits ≡ false
hex_no_space digits block h = hexes_no_space digits (decode_of-ok digits h.pattern h.value).1
