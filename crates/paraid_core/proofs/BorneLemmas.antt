-- The witness against the log disk that the last commit names out stays borne, call by call.
use Rattle.std.specs.Prelude.{◌≡◌, ◌≢◌, ℕ, ◌≤◌, Bool, true, false, Option, Some}
use Rattle.std.proofs.Common.{sym, ◌∙◌, ap, subst, arith, inl, inr}
use Rattle.std.proofs.lemmas.Bool.{cases_eq, false≢true}
use Rattle.paraid_base.specs.declared.block.Block.{Block}
use Rattle.paraid_rack.specs.declared.call.Call.{Call}
use Rattle.paraid_rack.specs.declared.call.Call.TheVariants.{Sync, Write}
use Rattle.paraid_rack.specs.declared.call.Power.TheVariants.{Absent}
use Rattle.paraid_rack.specs.Disks.{Disks, IsPresent, is_present, step}
use Rattle.paraid_rack.proofs.AtomsLemmas.{sync_sure, with_at_other, with_at_same, write_sure}
use Rattle.paraid_image.specs.Calls.{disk_of, is_done}
use Rattle.paraid_image.specs.LostDisk.{IsLoss}
use Rattle.paraid_image.specs.Sides.{is_open}
use Rattle.paraid_image.proofs.FailedCallLemmas.{failed_is_loss}
use Rattle.paraid_moves.proofs.ChangedDiskLemmas.{IsAttachedTo}
use Rattle.paraid_moves.proofs.ParkingLemmas.{IsTurnedTo}
use Rattle.paraid_core.specs.CoreInvariant.{IsWitnessBorne}

module _ (named : Option ℕ) (s : Disks) (borne : IsWitnessBorne named s) where
  -- where disk 2 is there it was so before, with the same blocks
  borne_same : (t : Disks) → (IsPresent t 2 → IsPresent s 2) → ((x : ℕ) → named ≡ Some x → IsPresent t 2 → (t.loose 2 x ≡ s.loose 2 x) × (t.block 2 x ≡ s.block 2 x)) → IsWitnessBorne named t
  borne_same t present same x low names = record {
    holds = λ here.
        let was = (borne x low names).holds (present here) in
        let is = same x names here in
        (is.0 ∙ was.0, subst (λ (b : Block). is_open b ≡ true) (sym is.1) was.1);
  }

  pub borne_written : (d p : ℕ) (b : Block) (done : Bool) → 2 ≤ p → IsWitnessBorne named (step (Write d p b done) s)
  borne_written d p b done past x low names = write_sure s d p b done 2 x (λ c. is_open c ≡ true) (λ is here. absurd (omega arith)) (borne x low names)

  pub borne_synced : (d : ℕ) (done : Bool) → IsWitnessBorne named (step (Sync d done) s)
  borne_synced d done x low names = sync_sure s d done 2 x (λ c. is_open c ≡ true) (borne x low names)

  pub borne_failed : (c : Call) → is_done c ≡ false → IsWitnessBorne named (step c s)
  borne_failed c failed =
      borne_same (step c s) (λ here. ap is_present (sym (power (apart here))) ∙ here) (λ x names here. (lost.loose 2 x (apart here), lost.block 2 x (apart here)))
    where
      lost : IsLoss s (step c s) (disk_of c)
      lost = failed_is_loss s c failed

      apart : IsPresent (step c s) 2 → 2 ≢ disk_of c
      apart here is = false≢true (sym (ap is_present (lost.power 2 ∙ with_at_same s.power (disk_of c) Absent 2 is)) ∙ here)

      power : 2 ≢ disk_of c → (step c s).power 2 ≡ s.power 2
      power not = lost.power 2 ∙ with_at_other s.power (disk_of c) Absent 2 not

  pub borne_turned : (t : Disks) → IsTurnedTo s t → IsWitnessBorne named t
  borne_turned t turned = borne_same t (λ here. sym (turned.present 2) ∙ here) (λ x names here. (turned.loose 2 x, turned.block 2 x))

  -- a disk is attached in the place of the one that is named out
  pub borne_attached : (t : Disks) (d size : ℕ) → IsAttachedTo s t d size → ((x : ℕ) → named ≡ Some x → x ≡ d) → IsWitnessBorne named t
  borne_attached t d size at only x low names = elim (cases_eq 2 d) [
    | inl is ↦ absurd (let same = only x names in omega arith)
    | inr apart ↦ borne_same t (λ here. ap is_present (sym (at.power 2 apart)) ∙ here) (λ y known here. (at.loose 2 y apart, at.block 2 y apart)) x low names
  ]
