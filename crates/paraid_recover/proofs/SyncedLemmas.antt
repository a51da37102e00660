-- What is synced once a disk was marked.
use Rattle.std.specs.Prelude.{◌≡◌, ◌≢◌, ℕ, ◌<◌, ◌==◌, Bool, true, false, Option, Some, None, if◌then◌else◌}
use Rattle.std.proofs.Common.{ap, arith, inl, inr, refl, sym, ◌∙◌}
use Rattle.std.proofs.lemmas.Bool.{true≢false}
use Rattle.paraid_base.specs.declared.state.Out.{Out}
use Rattle.paraid_base.specs.declared.state.Out.TheVariants.{No, Gone, Fresh}
use Rattle.paraid_base.specs.States.{gone_out}
use Rattle.paraid_rack.specs.declared.call.Power.{Power}
use Rattle.paraid_rack.specs.declared.call.Power.TheVariants.{Absent, Parked, Spinning}
use Rattle.paraid_rack.specs.Disks.{is_present}
use Rattle.paraid_rack.specs.Slots.{Slot}
use Rattle.paraid_record.specs.declared.meta.Meta.{Meta}
use Rattle.paraid_record.specs.declared.meta.Setup.{Setup}
use Rattle.paraid_txn.specs.Ready.{IsLogReady}
use Rattle.paraid_txn.specs.Uses.{CanSync}
use Rattle.paraid_txn.specs.Losses.{AreFailedOrWell, IsSyncedAt, OnlyLosesSlots, StaySynced}
use Rattle.paraid_session.specs.Powers.{AreSlotsSynced}
use Rattle.paraid_recover.specs.RecoveryMark.{renewed_by, to_mark, to_mark_by, with_mark}
use Rattle.paraid_recover.proofs.ServableLemmas.{disks_marked}

-- where no call was made
pub nothing_lost : (a : ℕ → Slot) → OnlyLosesSlots a a
nothing_lost a = record { power = λ d there. refl; size = λ d there. refl; no_fall = λ d. omega arith }

pub nothing_failed : (a : ℕ → Slot) → AreFailedOrWell a a
nothing_failed a d = inr (record { faults = refl; power = refl; size = refl })

renewed_out : (b : Bool) (m : Meta) → (renewed_by b m).out ≡ m.out
renewed_out false m = refl
renewed_out true m = refl

-- a disk that is gone stays so
gone_marked : (power : ℕ → Power) (m : Meta) (d : ℕ) → gone_out m.out ≡ Some d → gone_out (with_mark m (to_mark power m)).out ≡ Some d
gone_marked power m d gone = by m.out refl gone
  where
    by : (o : Out) → m.out ≡ o → gone_out o ≡ Some d → gone_out (with_mark m (to_mark power m)).out ≡ Some d
    by No is gone = let z : None ≡ Some d = gone in cc
    by (Gone e) is gone =
        let none : to_mark power m ≡ None = ap (λ (o : Out). to_mark_by o power m.setup.geometry.disks) is in
        ap (λ (k : Option ℕ). gone_out (with_mark m k).out) none ∙ ap gone_out (renewed_out (m.version == 1) m) ∙ ap gone_out is ∙ gone
    by (Fresh e rebuilt) is gone = let z : None ≡ Some d = gone in cc

pub marked_synced : (b c : ℕ → Slot) (m : Meta) (skip : Option ℕ) (k : ℕ) → skip ≡ gone_out m.out → k ≡ m.setup.geometry.disks → ((d : ℕ) → d < k → skip ≢ Some d → IsSyncedAt b d)
    → OnlyLosesSlots b c → StaySynced b c → AreSlotsSynced (with_mark m (to_mark (λ d. (b d).power) m)) c
marked_synced b c m skip k skip_is k_is synced spared stays d low not there = split (c d).unsynced refl
  where
    low_before : d < k
    low_before = let same = ap (λ (s : Setup). s.geometry.disks) (disks_marked m (to_mark (λ e. (b e).power) m)) in omega arith

    before : (b d).unsynced ≡ false
    before = synced d low_before (λ is. not (gone_marked (λ e. (b e).power) m d (sym skip_is ∙ is))) (ap is_present (sym (spared.power d there)) ∙ there)

    split : (x : Bool) → (c d).unsynced ≡ x → (c d).unsynced ≡ false
    split false is = is
    split true is = elim (stays d there is) [ inl was ↦ absurd (true≢false (sym was ∙ before)) | inr none ↦ absurd none ]

-- what can be synced and written before slots are lost can be so after it
module _ (a b : ℕ → Slot) (spared : OnlyLosesSlots a b) where
  was_there : (d : ℕ) → is_present (b d).power ≡ true → is_present (a d).power ≡ true
  was_there d here = ap is_present (sym (spared.power d here)) ∙ here

  pub sync_kept : (n k : ℕ) (out skip : Option ℕ) → k ≡ n → skip ≡ out → CanSync n out a → CanSync k skip b
  sync_kept n k out skip same skips can = record {
    within = λ d low not spins.
        let here = ap is_present spins in
        let size = spared.size d here in
        let within = can.within d (omega arith) (λ is. not (skips ∙ is)) (sym (spared.power d here) ∙ spins) in
        omega arith;
  }

  pub log_kept : (named : Option ℕ) → IsLogReady named a → IsLogReady named b
  log_kept named log = record {
    can = λ x low not. record {
      spins = λ here. spared.power x here ∙ (log.can x low not).spins (was_there x here);
      within = λ here. let size = spared.size x here in let within = (log.can x low not).within (was_there x here) in omega arith;
    };
  }

-- whether a disk that is being rebuilt is to be marked
there_by : (p : Power) → p ≢ Absent → is_present p ≡ true
there_by Absent here = absurd (here refl)
there_by Parked here = refl
there_by Spinning here = refl

module _ (power : ℕ → Power) (m : Meta) (d rebuilt : ℕ) (is : m.out ≡ Fresh d rebuilt) where
  pub fresh_gone : power d ≡ Absent → Some d ≡ to_mark power m
  fresh_gone gone = sym (ap (λ (o : Out). to_mark_by o power m.setup.geometry.disks) is ∙ ap (λ (p : Power). if is_present p then None else Some d) gone)

  pub fresh_there : power d ≢ Absent → None ≡ to_mark power m
  fresh_there here = sym (ap (λ (o : Out). to_mark_by o power m.setup.geometry.disks) is ∙ ap (λ (b : Bool). if b then None else Some d) (there_by (power d) here))
