-- The first newline, as a search for a byte finds it.
use Rattle.std.proofs.Common.{◌≡◌, ℕ, ◌+◌, ◌<◌, List, ◌∷◌, ◌++◌, length, get_or, take, drop, Option, Some, None, MatchOption, refl, subst, arith}
use Rattle.std.proofs.Math.Seq.{take-length}
use Rattle.std.proofs.lemmas.Bool.Decides.{nat_tests}
use Rattle.memchr.specs.Find.{IsFirstByte, is_byte}
use Rattle.paraid_io.specs.Lines.{NoNewline}
use Rattle.paraid_io.proofs.LineLemmas.{NoNewline-below, cut_at}

pub newline_from : (xs : List ℕ) (r : Option ℕ) → IsFirstByte (is_byte 10) xs r
    → MatchOption r (NoNewline xs) (λ k. (k < length xs) × NoNewline (take k xs) × (xs ≡ take k xs ++ 10 ∷ drop (k + 1) xs))
newline_from xs None nowhere =
    subst NoNewline (take-length xs) (NoNewline-below xs (length xs) (omega arith) (λ k lt e. nowhere k (omega arith) lt (rw e refl)))
newline_from xs (Some k) (none, here) =
    let ten : get_or xs k 0 ≡ 10 = grind (arith, nat_tests, here) in (
      none.high,
      NoNewline-below xs k (omega (arith, none.high)) (λ j lt e. none.before j (omega arith) lt (rw e refl)),
      cut_at xs k 0 none.high ten,
    )
