-- Which disk is out, and which map is looked at.
use Rattle.std.specs.Prelude.{◌≡◌, ◌≢◌, ℕ, ◌<◌, ◌⊎◌, ◌==◌, true, false, Option, Some, None}
use Rattle.std.proofs.Common.{refl, sym, ◌∙◌, ap, arith, inl, inr}
use Rattle.std.proofs.lemmas.Bool.{cases_eq, false≢true, true≢false}
use Rattle.std.proofs.lemmas.Bool.Decides.{nat_tests}
use Rattle.paraid_base.specs.declared.state.Out.{Out}
use Rattle.paraid_base.specs.declared.state.Out.TheVariants.{No, Gone, Fresh}
use Rattle.paraid_record.specs.Range.{has_out}
use Rattle.paraid_image.specs.Out.{is_out, named_out}
use Rattle.paraid_image.specs.Spot.{map_disk}

pub out_some : (o : Option ℕ) (e : ℕ) → is_out o e ≡ true → o ≡ Some e
out_some None e h = absurd (false≢true h)
out_some (Some d) e h = let is : e ≡ d = grind (arith, nat_tests) in ap Some (sym is)

pub out_not : (o : Option ℕ) (e : ℕ) → is_out o e ≡ false → o ≢ Some e
out_not None e h k = cc
out_not (Some d) e h k = let is : e ≡ d = cc in let at : (e == d) ≡ true = grind (arith, nat_tests) in true≢false (sym at ∙ h)

pub not_out : (o : Option ℕ) (e : ℕ) → o ≢ Some e → is_out o e ≡ false
not_out None e apart = refl
not_out (Some d) e apart = let not_it : e ≢ d = (λ is. apart (ap Some (sym is))) in grind (arith, nat_tests)

pub some_out : (o : Option ℕ) (e : ℕ) → o ≡ Some e → is_out o e ≡ true
some_out None e is = cc
some_out (Some d) e is = let same : e ≡ d = cc in grind (arith, nat_tests)

-- one disk is out, and no other
pub only_out : (o : Option ℕ) (e x : ℕ) → o ≡ Some e → x ≢ e → o ≢ Some x
only_out o e x is apart k = let z : Some e ≡ Some x = sym is ∙ k in let same : x ≡ e = cc in apart same

-- the map that is looked at, by whether disk 0 is out
pub map_disk_cases : (o : Option ℕ) → ((map_disk o ≡ 0) × (o ≢ Some 0)) ⊎ ((map_disk o ≡ 1) × (o ≡ Some 0))
map_disk_cases None = inl (refl, λ k. cc)
map_disk_cases (Some e) = elim (cases_eq e 0) [
  | inl is ↦ let at : (0 == e) ≡ true = grind (arith, nat_tests) in inr (rw at refl, ap Some is)
  | inr not_it ↦ let at : (0 == e) ≡ false = grind (arith, nat_tests) in inl (rw at refl, λ k. let same : e ≡ 0 = cc in not_it same)
]

pub alone_by : (o : Out) (fill s : ℕ) → (has_out o ≡ true → fill ≡ 0) → s < fill → named_out o ≡ None
alone_by No fill s still l = refl
alone_by (Gone e) fill s still l = let none = still refl in absurd (omega arith)
alone_by (Fresh e count) fill s still l = let none = still refl in absurd (omega arith)
