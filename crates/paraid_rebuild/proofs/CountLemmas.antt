-- Counts of faults as a fresh disk is attached.
use Rattle.std.proofs.Common.{◌≡◌, ◌≢◌, ℕ, ◌≤◌, ◌⊎◌, inl, inr, ap, arith, subst, sym}
use Rattle.std.proofs.lemmas.Bool.{cases_eq}
use Rattle.paraid_base.specs.Told.{HasRisen}
use Rattle.paraid_rack.specs.Slots.{Slot}
use Rattle.paraid_session.specs.Faults.{HaveNotFallen}

module _ (old new : ℕ → Slot) (disk : ℕ) (others : (d : ℕ) → d ≢ disk → new d ≡ old d) where
  counts_but : ((old disk).faults ≤ (new disk).faults) ⊎ HasRisen (old disk).faults (new disk).faults → HaveNotFallen old new
  counts_but here d = elim (cases_eq d disk) [
    | inl is ↦ subst (λ (x : ℕ). ((old x).faults ≤ (new x).faults) ⊎ HasRisen (old x).faults (new x).faults) (sym is) here
    | inr apart ↦ let e = ap (λ (s : Slot). s.faults) (others d apart) in inl (omega (arith, e))
  ]

  -- where the attach is done no count changes
  pub attached_counts : (new disk).faults ≡ (old disk).faults → HaveNotFallen old new
  attached_counts same = counts_but (inl (omega (arith, same)))

  -- where it has failed that of the slot has risen
  pub failed_counts : HasRisen (old disk).faults (new disk).faults → HaveNotFallen old new
  failed_counts risen = counts_but (inr risen)
