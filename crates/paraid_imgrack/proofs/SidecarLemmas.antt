-- What a test of a word says of the text that it came from.
use Rattle.std.proofs.Common.{◌≡◌, ℕ, Bool, true, false, List, nat_eq, sym, ◌∙◌}
use Rattle.std.specs.Bool.{Decides}
use Rattle.std.proofs.lemmas.Bool.{false≢true}
use Rattle.std.specs.Cmp.Lexicographic.{pointwise}
use Rattle.std.proofs.lemmas.Bool.Decides.{Decides-eqb}
use Rattle.std.proofs.lemmas.Slice.Eq.{slice_eq-Decides}
use Rattle.std.proofs.lemmas.Str.Ascii.{trim_ascii_end_is}
use Rattle.std.specs.Str.{IsTrimAsciiEnd}
use Rattle.paraid_imgrack.specs.Sidecar.{trim_end}

module _ (text said want word : List ℕ) (is : IsTrimAsciiEnd text said) (same : want ≡ word) (test : Bool) (tests : test ≡ pointwise nat_eq said want) where
  decided : Decides test (said ≡ want)
  decided = slice_eq-Decides Decides-eqb _ _ _ tests

  pub said_so : test ≡ true → trim_end text ≡ word
  said_so e = sym (trim_ascii_end_is text said is) ∙ decided.0 e ∙ same

  pub not_said : test ≡ false → trim_end text ≡ word → ⊥
  not_said e so = false≢true (sym e ∙ decided.1 (trim_ascii_end_is text said is ∙ so ∙ sym same))
