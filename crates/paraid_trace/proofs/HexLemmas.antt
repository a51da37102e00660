-- Blocks that are written as hexadecimal digits
use Rattle.std.proofs.Common.{◌≡◌, ℕ, ◌<◌, ◌≤◌, List, length, Some, None, Result, Ok, Err, ◌&&◌, inl, inr, refl, sym, ap, ◌∙◌, arith}
use Rattle.std.specs.Prelude.{◌≢◌, ◌%◌, IsErr, nat_le}
use Rattle.std.proofs.lemmas.Bool.{and_from, and_left, and_parts, cases_Bool, leb-true, and_right, cond-false, cond-true, le-leb, lt-leb}
use Rattle.std.proofs.lemmas.Option.{same_Some}
use Rattle.hex.proofs.HexLemmas.{decode_of-odd, decode_of-ok}
use Rattle.paraid_base.specs.declared.block.Block.{Block}
use Rattle.paraid_trace.specs.Grammar.{IsHexOf}
use Rattle.paraid_trace.proofs.RepeatsLemmas.{Repeats-repeated, repeating_block-Repeats}
use Rattle.hex.specs.Hex.{decode_of, decode_pairs}
use Rattle.hex.specs.declared.error.FromHexError.{FromHexError}
use Rattle.paraid_trace.specs.LineEvents.{block_from_digits, repeated_if_ok}
use Rattle.paraid_trace.specs.Repeats.{repeating_block}

within : (digits : List ℕ) → 2 ≤ length digits → length digits ≤ 1024 → block_from_digits digits ≡ repeated_if_ok (decode_of digits)
unfolding block_from_digits
within digits low high = cond-true _ _ _ (and_from _ _ (le-leb _ _ low) (le-leb _ _ high))

decode_of-even : (digits : List ℕ) → length digits % 2 ≢ 1 → decode_of digits ≡ decode_pairs 0 digits
decode_of-even digits even = grind (arith)

none_of : (r : Result (List ℕ) FromHexError) → IsErr r → repeated_if_ok r ≡ None
none_of (Ok bytes) h = cc h
none_of (Err e) h = refl

pub block_from_digits-read : (digits out : List ℕ) → 2 ≤ length digits → length digits ≤ 1024 → length digits % 2 ≢ 1 → decode_pairs 0 digits ≡ Ok out → block_from_digits digits ≡ Some (repeating_block out)
block_from_digits-read digits out low high even h = within digits low high ∙ ap repeated_if_ok (decode_of-even digits even ∙ h)

pub block_from_digits-refused : (digits : List ℕ) → 2 ≤ length digits → length digits ≤ 1024 → length digits % 2 ≢ 1 → IsErr (decode_pairs 0 digits) → block_from_digits digits ≡ None
block_from_digits-refused digits low high even h = within digits low high ∙ ap repeated_if_ok (decode_of-even digits even) ∙ none_of (decode_pairs 0 digits) h

pub block_from_digits-odd : (digits : List ℕ) → 2 ≤ length digits → length digits ≤ 1024 → length digits % 2 ≡ 1 → block_from_digits digits ≡ None
block_from_digits-odd digits low high odd = within digits low high ∙ ap repeated_if_ok (decode_of-odd digits odd)

pub block_from_digits-short : (digits : List ℕ) → length digits < 2 → block_from_digits digits ≡ None
unfolding block_from_digits
block_from_digits-short digits lt = cond-false _ _ _ (and_left _ _ (lt-leb _ _ lt))

pub block_from_digits-long : (digits : List ℕ) → 1024 < length digits → block_from_digits digits ≡ None
unfolding block_from_digits
block_from_digits-long digits lt = cond-false _ _ _ (and_right _ _ (lt-leb _ _ lt))

-- the digits that the grammar asks for are read as the block
pub block_from_digits-IsHexOf : (digits : List ℕ) (block : Block) → IsHexOf digits block → block_from_digits digits ≡ Some block
block_from_digits-IsHexOf digits block h = within digits h.low h.high ∙ ap repeated_if_ok h.value ∙ ap Some (sym (repeating_block-Repeats h.pattern block h.repeats))

opened : (digits : List ℕ) (block : Block) → block_from_digits digits ≡ Some block → (2 ≤ length digits) × (length digits ≤ 1024) × (repeated_if_ok (decode_of digits) ≡ Some block)
unfolding block_from_digits
opened digits block e = elim (cases_Bool (nat_le 2 (length digits) && nat_le (length digits) 1024)) [
  | inl yes' ↦ let parts = and_parts _ _ yes' in (leb-true _ _ parts.0, leb-true _ _ parts.1, sym (cond-true _ _ _ yes') ∙ e)
  | inr no' ↦ let none = sym (cond-false _ _ _ no') ∙ e in cc
]

-- what is read as a block are digits that the grammar asks for
pub IsHexOf-block_of : (digits : List ℕ) (block : Block) → block_from_digits digits ≡ Some block → IsHexOf digits block
IsHexOf-block_of digits block e = let h = opened digits block e in of (decode_of digits) refl h.0 h.1 h.2
  where
    of : (d : Result (List ℕ) FromHexError) → decode_of digits ≡ d → 2 ≤ length digits → length digits ≤ 1024 → repeated_if_ok d ≡ Some block → IsHexOf digits block
    of (Ok pattern) is low high h = record {
      low = low;
      high = high;
      pattern = pattern;
      value = is;
      repeats = let same = same_Some _ _ h in rw (← same) (Repeats-repeated pattern (decode_of-ok digits pattern is).3);
    }
    of (Err x) is low high h = cc
