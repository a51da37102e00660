-- Pairs of digits that are read by their values alone
use Rattle.std.proofs.Common.{◌≡◌, ℕ, ◌+◌, ◌*◌, ◌<◌, ◌≤◌, List, Option, Some, None, unwrap_or, Ok, Err, refl, ap, sym, ◌∙◌, arith, inl, inr, slice_index, take, drop, slice_set, length, bit_and}
use Rattle.std.specs.Prelude.{IsErr}
use Rattle.std.proofs.lemmas.Bool.{cases_lt}
use Rattle.std.proofs.lemmas.Nat.{and_mask}
use Rattle.std.proofs.Math.Nat.{mod-eq_of_lt}
use Rattle.hex.specs.Hex.{decode_pairs, digit_or_error, hex_digit_value, pair_value, value_at}
use Rattle.hex.specs.declared.error.FromHexError.{FromHexError}
use Rattle.hex.proofs.Pairs.{decode_err, decode_step, prepend}

-- the value of a digit, or 255, as the reader finds it
pub record IsDigitValue (c v : ℕ) : Type 0 where
  pub value : v ≡ unwrap_or (hex_digit_value c) 255
  pub none : 16 ≤ v → hex_digit_value c ≡ None

value_from : (c i v : ℕ) (o : Option ℕ) → v ≡ unwrap_or o 255 → v < 16 → digit_or_error c i o ≡ Ok v
value_from c i v (Some w) e lt = ap Ok (sym e)
value_from c i v None e lt = absurd (omega arith)

read_at : (c i v : ℕ) → IsDigitValue c v → v < 16 → value_at c i ≡ Ok v
read_at c i v h lt = value_from c i v (hex_digit_value c) h.value lt

refused_at : (c i v : ℕ) → IsDigitValue c v → 16 ≤ v → (e : FromHexError) × (value_at c i ≡ Err e)
refused_at c i v h le = (_, ap (digit_or_error c i) (h.none le))

pair_read : (a b i v w : ℕ) → IsDigitValue a v → IsDigitValue b w → v < 16 → w < 16 → pair_value a b i ≡ Ok (v * 16 + w)
pair_read a b i v w hv hw lv lw = rw (read_at a i v hv lv, read_at b (i + 1) w hw lw) refl

pair_refused : (a b i v w : ℕ) → IsDigitValue a v → IsDigitValue b w → (v < 16 → 16 ≤ w) → (e : FromHexError) × (pair_value a b i ≡ Err e)
pair_refused a b i v w hv hw bad = elim (cases_lt v 16) [
  | inl good ↦
      let first = read_at a i v hv good in
      let second = refused_at b (i + 1) w hw (bad good) in
      (second.0, rw (first, second.1) refl)
  | inr high ↦ let first = refused_at a i v hv high in (first.0, rw first.1 refl)
]

nibble : (v : ℕ) → v < 16 → bit_and v 15 ≡ v
nibble v lt = and_mask v 4 ∙ mod-eq_of_lt lt

-- one pair more is read
pub read_step : (s out : List ℕ) (i v w : ℕ) → 2 * i + 1 < length s → i < length out
    → IsDigitValue (slice_index s (2 * i)) v → IsDigitValue (slice_index s (2 * i + 1)) w → v < 16 → w < 16
    → decode_pairs 0 s ≡ prepend (take i out) (decode_pairs (2 * i) (drop (2 * i) s))
    → decode_pairs 0 s ≡ prepend (take (i + 1) (slice_set out i (bit_and v 15 * 16 + bit_and w 15))) (decode_pairs (2 * (i + 1)) (drop (2 * (i + 1)) s))
read_step s out i v w fits room hv hw lv lw inv =
    rw (nibble v lv, nibble w lw) (decode_step s out i (v * 16 + w) fits room (pair_read _ _ (2 * i) v w hv hw lv lw) inv)

-- a pair of which one is no digit
pub refused_step : (s out : List ℕ) (i v w : ℕ) → 2 * i + 1 < length s
    → IsDigitValue (slice_index s (2 * i)) v → IsDigitValue (slice_index s (2 * i + 1)) w → (v < 16 → 16 ≤ w)
    → decode_pairs 0 s ≡ prepend (take i out) (decode_pairs (2 * i) (drop (2 * i) s))
    → IsErr (decode_pairs 0 s)
refused_step s out i v w fits hv hw bad inv =
    let r = pair_refused _ _ (2 * i) v w hv hw bad in
    rw (decode_err s out i r.0 fits r.1 inv) refl
