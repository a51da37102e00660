use Rattle.std.proofs.lemmas.Bool.{cases_Bool, false≢true}
-- What keeps an array in service.
use Rattle.std.specs.Prelude.{◌≡◌, ◌≢◌, ℕ, ◌<◌, Bool, List, [], Option, Some, None, Ok, true, false}
use Rattle.std.proofs.Common.{refl, sym, ◌∙◌, ap, subst, arith, inl, inr}
use Rattle.paraid_base.specs.declared.state.Out.{Out}
use Rattle.paraid_base.specs.declared.state.Out.TheVariants.{Fresh, Gone, No}
use Rattle.paraid_base.specs.Regions.{disk_size}
use Rattle.paraid_base.specs.States.{gone_out, rising_to}
use Rattle.paraid_rack.specs.declared.rack.Rack.{Ghosts}
use Rattle.paraid_rack.specs.Disks.{is_present}
use Rattle.paraid_rack.specs.Slots.{Slot}
use Rattle.paraid_record.specs.declared.meta.Meta.{Meta}
use Rattle.paraid_record.specs.declared.meta.Setup.{Setup}
use Rattle.paraid_image.specs.Mark.{meta_after_loss, meta_with_lost}
use Rattle.paraid_image.specs.Out.{named_out}
use Rattle.paraid_image.specs.Power.{power_by_gear}
use Rattle.paraid_session.specs.Powers.{FitsSlots}
use Rattle.paraid_txn.specs.Stores.{store_rack}
use Rattle.paraid_core.specs.declared.staged.Core.{Core}
use Rattle.paraid_core.specs.CoreInvariant.{is_copied}
use Rattle.paraid_core.specs.Cores.{CanCoreServe, IsCoreReady}
use Rattle.paraid_core.specs.Lost.{CoreMarksLost, MarksLost}
use Rattle.paraid_core.specs.Steps.{AreUnsyncedCopied, IsMarkedFrom, OnlyPowersDisks}
use Rattle.paraid_core.specs.PowerCalls.{AnswersPowerCall}
use Rattle.paraid_event.specs.CoreServing.{AreAllLarge, IsCoreServing, KeepsFit, LeavesArray}
use Rattle.paraid_core.proofs.StepLemmas.{marked_from_setup}
use Rattle.paraid_shift.proofs.FitsLemmas.{power_same}
use Rattle.paraid_upkeep.proofs.FitsLemmas.{rises_lost}
use Rattle.paraid_upkeep.proofs.ResultLemmas.{done_not_dropped}
use Rattle.paraid_event.proofs.CoreServingLemmas.{copies_kept, large_then, leaves_array_none, leaves_array_then, marked_named}
use Rattle.paraid_upkeep.specs.Service.{IsInService, IsOutKnown, LeavesInService}

-- a disk that is not out has not failed, and was not out before
large_lost : (old new : ℕ → Slot) (m m_then : Meta) → MarksLost old new m m_then → m_then.setup ≡ m.setup → AreAllLarge old m → AreAllLarge new m_then
large_lost old new m m_then marks setup large d low not =
    let not_lost : marks.lost ≢ Some d = (λ is. not (ap (λ (z : Meta). named_out z.out) marks.is ∙ ap (λ (o : Option ℕ). named_out (meta_with_lost o m).out) is)) in
    let well = marks.others d not_lost in
    let was = large d (subst (λ (z : Setup). d < z.geometry.disks) setup low) (λ is. not (by marks.lost is refl)) in
    let same = well.size in
    let setups : disk_size m_then.setup.geometry ≡ disk_size m.setup.geometry = ap (λ (z : Setup). disk_size z.geometry) setup in
    omega arith
  where
    by : (o : Option ℕ) → named_out m.out ≡ Some d → marks.lost ≡ o → named_out m_then.out ≡ Some d
    by None is e = ap (λ (z : Meta). named_out z.out) marks.is ∙ ap (λ (o : Option ℕ). named_out (meta_with_lost o m).out) e ∙ is
    by (Some x) is e = ap (λ (z : Meta). named_out z.out) marks.is ∙ ap (λ (o : Option ℕ). named_out (meta_with_lost o m).out) e ∙ ap Some (sym (marks.alone x d e is))

-- and it is powered as before
fits_well : (old new : ℕ → Slot) (m m_then : Meta) → MarksLost old new m m_then → m_then.setup ≡ m.setup → FitsSlots old m → FitsSlots new m_then
fits_well old new m m_then marks setup fits = record { powers = powers; large = large_lost old new m m_then marks setup fits.large }
  where
    as_lost : (o : Option ℕ) → marks.lost ≡ o → m_then ≡ record (meta_with_lost o m) { epoch = m_then.epoch; writes = m_then.writes }
    as_lost o e = marks.is ∙ ap (λ (o : Option ℕ). record (meta_with_lost o m) { epoch = m_then.epoch; writes = m_then.writes }) e

    stays : (d : ℕ) → named_out m.out ≡ Some d → (o : Option ℕ) → marks.lost ≡ o → named_out m_then.out ≡ Some d
    stays d is None e = ap (λ (z : Meta). named_out z.out) (as_lost None e) ∙ is
    stays d is (Some x) e = ap (λ (z : Meta). named_out z.out) (as_lost (Some x) e) ∙ ap Some (sym (marks.alone x d e is))

    same_power : (d : ℕ) (o : Option ℕ) → marks.lost ≡ o → power_by_gear m.gear m.phase d ≡ power_by_gear m_then.gear m_then.phase d
    same_power d None e = power_same m.gear m_then.gear d m.phase m_then.phase (ap (λ (z : Meta). z.gear) (as_lost None e)) (ap (λ (z : Meta). rising_to z.phase) (as_lost None e))
    same_power d (Some x) e = power_same m.gear m_then.gear d m.phase m_then.phase (ap (λ (z : Meta). z.gear) (as_lost (Some x) e)) (ap (λ (z : Meta). rising_to z.phase) (as_lost (Some x) e) ∙ rises_lost m.phase)

    powers : (d : ℕ) → d < m_then.setup.geometry.disks → named_out m_then.out ≢ Some d → (new d).power ≡ power_by_gear m_then.gear m_then.phase d
    powers d low not =
        let not_lost : marks.lost ≢ Some d = (λ is. not (ap (λ (z : Meta). named_out z.out) (as_lost (Some d) is))) in
        (marks.others d not_lost).power
        ∙ fits.powers d (subst (λ (z : Setup). d < z.geometry.disks) setup low) (λ is. not (stays d is marks.lost refl))
        ∙ same_power d marks.lost refl

-- where no disk is out none is gone
pub none_gone : (o : Out) (d : ℕ) → o ≡ No → gone_out o ≢ Some d
none_gone o d whole is = let z : None ≡ Some d = sym (ap gone_out whole) ∙ is in cc

module _ {R : Type 0} {g : _} (count : R → ℕ) (slot : R → ℕ → Slot) where
  -- after a call
  pub fits_then : (a b : Core R g) → CoreMarksLost slot a b → b.meta.setup ≡ a.meta.setup → KeepsFit slot a b
  fits_then a b marks setup = fits_well (slot (store_rack a.store)) (slot (store_rack b.store)) a.meta b.meta marks setup

  pub service_then : (a b : Core R g) → IsInService count slot a → CoreMarksLost slot a b → b.meta.setup ≡ a.meta.setup → IsCoreReady count slot b → CanCoreServe slot b → b.draft ≡ [] → b.copied ≡ a.copied → IsInService count slot b
  service_then a b q marks setup ready serves draft copied = record {
    ready = ready;
    serves = serves;
    draft = draft;
    copies_synced = copies_kept a b setup copied q.copies_synced;
    large = large_lost (slot (store_rack a.store)) (slot (store_rack b.store)) a.meta b.meta marks setup q.large;
  }

  -- after a park, in which the disk may be lost
  pub serving_turned : (a b : Core R g) → IsCoreServing count slot a → IsMarkedFrom a.meta b.meta → OnlyPowersDisks (slot (store_rack a.store)) (slot (store_rack b.store)) → b.draft ≡ a.draft → b.copied ≡ a.copied
      → IsCoreReady count slot b → CanCoreServe slot b → AreUnsyncedCopied slot b → IsCoreServing count slot b
  serving_turned a b q marked turned draft copied ready serves unsynced = record {
    ready = ready;
    serves = serves;
    draft = draft ∙ q.draft;
    copies_synced = copies_kept a b (marked_from_setup a.meta b.meta marked) copied q.copies_synced;
    unsynced = unsynced;
    large = large_then (slot (store_rack a.store)) (slot (store_rack b.store)) a.meta b.meta q.large turned (marked_from_setup a.meta b.meta marked) (marked_named a.meta b.meta marked) ready.absent;
  }

  -- a disk that is there and not gone is synced
  pub synced_disk : (a : Core R g) → IsCoreServing count slot a → (d : ℕ) → d < a.meta.setup.geometry.disks → gone_out a.meta.out ≢ Some d → is_present (slot (store_rack a.store) d).power ≡ true → (slot (store_rack a.store) d).unsynced ≡ false
  synced_disk a q d low stays here = elim (cases_Bool (slot (store_rack a.store) d).unsynced) [
    | inl wet ↦ absurd (false≢true (sym (q.copies_synced d low) ∙ q.unsynced d low stays here wet))
    | inr dry ↦ dry
  ]

  -- nothing is done
  pub in_service_none : (a : Core R g) → IsCoreServing count slot a → IsOutKnown slot a → LeavesInService count slot a a
  in_service_none a q known = record { serving = q; leaves = leaves_array_none count slot a; known = known; fits = λ f. f }

  -- one part after the other
  pub in_service_then : (a b c : Core R g) → LeavesArray count slot a b → KeepsFit slot a c → LeavesInService count slot b c → LeavesInService count slot a c
  in_service_then a b c first fits second = record { serving = second.serving; leaves = leaves_array_then count slot a b c first second.leaves; known = second.known; fits = fits }

  pub service_serving : (a : Core R g) → IsInService count slot a → AreUnsyncedCopied slot a → IsCoreServing count slot a
  service_serving a q unsynced = record { ready = q.ready; serves = q.serves; draft = q.draft; copies_synced = q.copies_synced; unsynced = unsynced; large = q.large }

  pub serving_service : (a : Core R g) → IsCoreServing count slot a → IsInService count slot a
  serving_service a q = record { ready = q.ready; serves = q.serves; draft = q.draft; copies_synced = q.copies_synced; large = q.large }

-- no disk is turned
pub unturned : {R : Type 0} {g : Ghosts R} (a : Core R g) (disk : ℕ) → AnswersPowerCall disk a a (Ok true)
unturned a disk = record {
  meta = record { lost = None; is = refl; alone = λ d x is. let z : None ≡ Some d = is in absurd cc };
  same = λ is. refl;
  risen = λ d is. inl is;
  gone = λ is. done_not_dropped _ _ refl is;
  failed = λ is. done_not_dropped _ _ refl is;
  two = tt;
  tells = tt;
}

-- a disk is marked as gone: no call is made
pub large_marked : {R : Type 0} {g : _} (slot : R → ℕ → Slot) (a b : Core R g) → b.store ≡ a.store → b.meta.setup ≡ a.meta.setup → (disk : ℕ) → named_out b.meta.out ≡ Some disk → ((x : ℕ) → named_out a.meta.out ≡ Some x → x ≡ disk)
    → AreAllLarge (slot (store_rack a.store)) a.meta → AreAllLarge (slot (store_rack b.store)) b.meta
large_marked slot a b store setup disk out alone large d low not =
    let was = large d (subst (λ (z : Setup). d < z.geometry.disks) setup low) (λ is. not (out ∙ ap Some (sym (alone d is)))) in
    let same : (slot (store_rack b.store) d).size ≡ (slot (store_rack a.store) d).size = ap (λ (z : _). (slot (store_rack z) d).size) store in
    let setups : disk_size b.meta.setup.geometry ≡ disk_size a.meta.setup.geometry = ap (λ (z : Setup). disk_size z.geometry) setup in
    omega arith

-- and the disks that are unsynced are those that were
pub unsynced_marked : {R : Type 0} {g : _} (slot : R → ℕ → Slot) (a b : Core R g) (disk : ℕ) → b.store ≡ a.store → b.meta ≡ meta_after_loss a.meta disk → b.copied ≡ a.copied → ((x : ℕ) → named_out a.meta.out ≡ Some x → x ≡ disk)
    → AreUnsyncedCopied slot a → AreUnsyncedCopied slot b
unsynced_marked slot a b disk store meta copied alone before d low stays here wet =
    ap (λ (z : List Bool). is_copied z d) copied
    ∙ before d (subst (λ (m : Meta). d < m.setup.geometry.disks) meta low) (λ is. stays (ap (λ (m : Meta). gone_out m.out) meta ∙ ap Some (sym (alone d (by a.meta.out is)))))
    (ap (λ (z : _). is_present (slot (store_rack z) d).power) (sym store) ∙ here) (ap (λ (z : _). (slot (store_rack z) d).unsynced) (sym store) ∙ wet)
  where
    by : (o : Out) → gone_out o ≡ Some d → named_out o ≡ Some d
    by No is = is
    by (Gone e) is = is
    by (Fresh e u) is = let z : None ≡ Some d = is in cc
