-- Decimal digits and the numbers that they are printed from
use Rattle.std.proofs.Common.{◌≡◌, ℕ, zero, suc, ◌+◌, ◌*◌, ◌^◌, ◌<◌, ◌≤◌, ◌≢◌, inl, inr, List, [], ◌∷◌, length, take, get_or, Option, Some, None, true, refl, sym, ap, ◌∙◌, arith, add-one}
use Rattle.std.specs.Prelude.{decimal, nat_lt}
use Rattle.std.specs.Option.{SomeIff}
use Rattle.std.specs.Str.{bytes_eq}
use Rattle.std.specs.Char.{digit_value}
use Rattle.std.specs.Str.Parse.{AllDigits, IsNumeral, digits_value}
use Rattle.std.proofs.lemmas.Bool.{and_parts, and_from, ltb-true, lt-ltb, cond-true, cases_lt}
use Rattle.std.proofs.lemmas.Option.{cond_some}
use Rattle.std.proofs.lemmas.Slice.Eq.{bytes_eq-Decides}
use Rattle.std.proofs.lemmas.Str.Parse.{digits_value-take-le, IsNumeralModel, numerals_by_value, tells_digits}
use Rattle.std.proofs.lemmas.Int.Digits.{digits_value_more}
use Rattle.std.proofs.lemmas.Fmt.{decimal-digits_value, decimal_is_IsNumeral, first_decimal, decimal_digit}
use Rattle.paraid_trace.specs.Grammar.{IsNumber}
use Rattle.paraid_trace.specs.LineEvents.{number_of}

model : IsNumeralModel (AllDigits 10) (digits_value 10)
model = numerals_by_value _ tells_digits

pub AllDigits-more : (digits : List ℕ) (i : ℕ) → i < length digits → AllDigits 10 (take i digits) → digit_value (get_or digits i 0) < 10 → AllDigits 10 (take (i + 1) digits)
AllDigits-more [] i lt all h = absurd (omega arith)
AllDigits-more (c ∷ digits) zero lt all h = (h, tt)
AllDigits-more (c ∷ digits) (suc i) lt all h = rw add-one (all.0, rw add-one at (AllDigits-more digits i (omega arith) all.1 h))

pub AllDigits-at : (digits : List ℕ) (i : ℕ) → i < length digits → AllDigits 10 digits → digit_value (get_or digits i 0) < 10
AllDigits-at [] i lt all = absurd (omega arith)
AllDigits-at (c ∷ digits) zero lt all = all.0
AllDigits-at (c ∷ digits) (suc i) lt all = AllDigits-at digits i (omega arith) all.1

-- the digits of a number are read as that number
pub number_of-IsNumber : (digits : List ℕ) (n : ℕ) → IsNumber digits n → number_of digits ≡ Some n
unfolding number_of
number_of-IsNumber digits n h =
    let read : digits_value 10 digits ≡ n = ap (digits_value 10) h.printed ∙ (decimal_is_IsNumeral n (omega arith)).1 in
    let below : nat_lt (digits_value 10 digits) (2 ^ 32) ≡ true = lt-ltb _ _ (omega arith) in
    let same : bytes_eq digits (decimal (digits_value 10 digits)) ≡ true = (bytes_eq-Decides digits _).1 (h.printed ∙ ap decimal (sym read)) in
    cond-true _ _ _ (and_from _ _ below same) ∙ ap Some read

-- what is read as a number are its digits
pub IsNumber-number_of : (digits : List ℕ) (n : ℕ) → number_of digits ≡ Some n → IsNumber digits n
unfolding number_of
IsNumber-number_of digits n e =
    let found = cond_some _ _ _ e in
    let parts = and_parts _ _ found.0 in
    let below = ltb-true _ _ parts.0 in
    let same = (bytes_eq-Decides digits _).0 parts.1 in
    record {
      below = rw (← found.1) below;
      printed = same ∙ ap decimal found.1;
    }

none_unless : (o : Option ℕ) → ((n : ℕ) → o ≡ Some n → ⊥) → o ≡ None
none_unless None h = refl
none_unless (Some n) h = absurd (h n refl)

-- a list that is no numeral, or of too large a number, is read as none
pub number_of-other : (digits : List ℕ) → (IsNumeral 10 digits × (digits_value 10 digits < 2 ^ 32) → ⊥) → number_of digits ≡ None
number_of-other digits not = none_unless _ (λ n e.
    let h = IsNumber-number_of digits n e in
    let small : n < 2 ^ 64 = omega (arith, h.below) in
    let is = decimal_is_IsNumeral n small in
    let read : digits_value 10 digits ≡ n = ap (digits_value 10) h.printed ∙ is.1 in
    not (rw h.printed is.0, rw read h.below))

-- a zero before another digit is read as none
pub number_of-zero : (digits : List ℕ) → 1 < length digits → get_or digits 0 0 ≡ 48 → number_of digits ≡ None
number_of-zero digits long first = none_unless _ (λ n e.
    let h = IsNumber-number_of digits n e in
    zero_first n h.below (rw h.printed at long) (rw h.printed at first))
  where
    zero_first : (n : ℕ) → n < 2 ^ 32 → 1 < length (decimal n) → get_or (decimal n) 0 0 ≡ 48 → ⊥
    zero_first zero lt many is = let one = ap length (decimal_digit 0 (omega arith)) in omega (arith, one)
    zero_first (suc n) lt many is = let above = first_decimal (suc n) (omega arith) (omega arith) in omega arith

-- what a reader of numerals finds, where no zero stands before another digit
pub number_of-read : (digits : List ℕ) (r : Option ℕ) → SomeIff r (IsNumeral 10 digits × (digits_value 10 digits < 2 ^ 32)) (digits_value 10 digits) → (1 < length digits → get_or digits 0 0 ≢ 48) → r ≡ number_of digits
number_of-read digits None h first = sym (number_of-other digits h)
number_of-read digits (Some n) h first =
    let is = h.0.0 in
    let one : get_or digits 0 0 ≡ 48 → length digits ≡ 1 = λ e. elim (cases_lt 1 (length digits)) [
      | inl long ↦ absurd (first long e)
      | inr short ↦ let some = is.0 in omega arith
    ] in
    let printed = decimal-digits_value model digits is.1 is.0 one (omega (arith, h.0.1)) in
    ap Some h.1 ∙ sym (number_of-IsNumber digits _ (record { below = h.0.1; printed = sym printed }))

-- a byte that is no digit, and a front of too large a number, leave no numeral
pub no_numeral-digit : (digits : List ℕ) (i : ℕ) → i < length digits → (digit_value (get_or digits i 0) < 10 → ⊥) → IsNumeral 10 digits × (digits_value 10 digits < 2 ^ 32) → ⊥
no_numeral-digit digits i lt not h = not (AllDigits-at digits i lt h.0.1)

pub no_numeral-large : (digits : List ℕ) (i number digit : ℕ) → i < length digits → number ≡ digits_value 10 (take i digits) → digit ≤ digit_value (get_or digits i 0) → (number * 10 + digit < 2 ^ 32 → ⊥) → IsNumeral 10 digits × (digits_value 10 digits < 2 ^ 32) → ⊥
no_numeral-large digits i number digit lt read small not h =
    let more = digits_value_more 10 digits i lt in
    let within = digits_value-take-le 10 digits (i + 1) (omega arith) in
    let whole = h.1 in
    not (omega arith)
