use Rattle.std.specs.Prelude.{ℕ}
use Rattle.std.proofs.Common.{◌∙◌, ap, sym, subst, inl, inr}
use Rattle.paraid_rack.specs.Atoms.{IsLeftByStop}
use Rattle.paraid_rack.specs.declared.call.Power.TheVariants.{Absent}
use Rattle.paraid_rack.specs.Disks.{Disks, is_present, lose}
use Rattle.paraid_rack.proofs.AtomsLemmas.{image_left, lost_apart, with_at_other}
use Rattle.paraid_recover.proofs.laws_of_reads.reads_leave_the_images.Goals as goal

left_of_lost : (x : ℕ) (s i : Disks) → IsLeftByStop (lose x s) i → IsLeftByStop s i
left_of_lost x s i left = record {
  present = λ d here.
      let was = left.present d here in
      ap is_present (sym (with_at_other s.power x Absent d (lost_apart s x d was))) ∙ was;
  power = λ d here. left.power d here ∙ with_at_other s.power x Absent d (lost_apart s x d (left.present d here));
  size = λ d here. left.size d here ∙ with_at_other s.size x 0 d (lost_apart s x d (left.present d here));
  block = left.block;
}

pub returns : goal.returns
returns c s t i among image = elim among [
  | inl one ↦ elim one [
    | inl same ↦ subst (λ (u : Disks). IsLeftByStop u i) same left
    | inr lost ↦ elim lost [
      | inl is ↦ left_of_lost 0 s i (subst (λ (u : Disks). IsLeftByStop u i) is left)
      | inr is ↦ left_of_lost 1 s i (subst (λ (u : Disks). IsLeftByStop u i) is left)
    ]
  ]
  | inr both ↦ left_of_lost 0 s i (left_of_lost 1 (lose 0 s) i (subst (λ (u : Disks). IsLeftByStop u i) both left))
]
  where
    left : IsLeftByStop t i
    left = image_left t i image
