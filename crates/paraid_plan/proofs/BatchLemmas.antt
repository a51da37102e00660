-- Targets that are added to a batch one by one are laid as if they stood at its end.
use Rattle.std.specs.Prelude.{◌≡◌, ℕ, ◌==◌, ◌&&◌, true, false, [], ◌∷◌, ◌++◌, if◌then◌else◌}
use Rattle.std.proofs.Common.{refl, sym, ◌∙◌, ap, subst, arith, inl, inr}
use Rattle.std.proofs.lemmas.Bool.{cases_Bool}
use Rattle.std.proofs.lemmas.Bool.Decides.{nat_tests}
use Rattle.paraid_base.specs.declared.block.Block.{Block}
use Rattle.paraid_record.specs.declared.targets.Target.{Target}
use Rattle.paraid_image.specs.Neutral.{names_place}
use Rattle.paraid_image.specs.Sides.{Batch, targets}
use Rattle.paraid_image.specs.Standing.{overlaid_block}
use Rattle.paraid_image.specs.Batches.{with_target}
use Rattle.paraid_image.proofs.BatchesLemmas.{AreApart, AreApart-rest, overlaid_block-other, names_place-rest, same_target}
use Rattle.paraid_plan.proofs.LayLemmas.{laid_append}

-- the block of one target, laid over another
abbrev over : Target → Block → ℕ → ℕ → Block → Block
over t b d p x = if t.disk == d && t.place == p then b else x

laid_one : (t : Target) (b : Block) (d p : ℕ) (x : Block) → overlaid_block ((t, b) ∷ []) d p x ≡ over t b d p x
laid_one t b d p x = refl

pub overlaid_block-with_target : (batch : Batch) (t : Target) (b : Block) (d p : ℕ) (x : Block) → AreApart (targets batch)
    → overlaid_block (with_target batch t b) d p x ≡ overlaid_block (batch ++ (t, b) ∷ []) d p x
overlaid_block-with_target [] t b d p x apart = refl
overlaid_block-with_target (w ∷ batch) t b d p x apart = elim (cases_Bool (w.0.disk == t.disk && w.0.place == t.place)) [
  | inl same ↦ rw same (replaced (same_target w.0 t same))
  | inr other ↦ rw other (overlaid_block-with_target batch t b d p (over w.0 w.1 d p x) (AreApart-rest w batch apart))
]
  where
    here : (y z : Block) → overlaid_block batch d p (over w.0 b d p y) ≡ over w.0 b d p (overlaid_block batch d p (over w.0 z d p y))
    here y z = elim (cases_Bool (w.0.disk == d && w.0.place == p)) [
      | inl at ↦ rw at (overlaid_block-other batch d p b (not_named at))
      | inr off ↦ rw off refl
    ]
      where
        not_named : (w.0.disk == d && w.0.place == p) ≡ true → names_place batch d p ≡ false
        not_named at = let e : (w.0.disk ≡ d) × (w.0.place ≡ p) = (grind (arith, nat_tests), grind (arith, nat_tests)) in
            subst (λ (q : ℕ). names_place batch d q ≡ false) e.1 (subst (λ (f : ℕ). names_place batch f w.0.place ≡ false) e.0 (names_place-rest w batch apart))

    replaced : w.0 ≡ t → overlaid_block batch d p (over w.0 b d p x) ≡ overlaid_block (batch ++ (t, b) ∷ []) d p (over w.0 w.1 d p x)
    replaced is = here x w.1 ∙ ap (λ (s : Target). over s b d p (overlaid_block batch d p (over w.0 w.1 d p x))) is ∙ sym (laid_append batch ((t, b) ∷ []) d p (over w.0 w.1 d p x))
