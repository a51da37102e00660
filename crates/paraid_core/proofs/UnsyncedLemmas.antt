-- The disks that may be unsynced after a call.
use Rattle.std.specs.Prelude.{◌≡◌, ◌≢◌, ℕ, ◌<◌, ◌⊎◌, Bool, true, false, List, Option, Some, None}
use Rattle.std.proofs.Common.{refl, sym, ◌∙◌, ap, subst, inl, inr}
use Rattle.std.proofs.lemmas.Bool.{cases_Bool, cases_eq, false≢true}
use Rattle.paraid_base.specs.declared.state.Out.{Out}
use Rattle.paraid_base.specs.declared.state.Out.TheVariants.{Fresh, Gone, No}
use Rattle.paraid_base.specs.States.{gone_out, named_out}
use Rattle.paraid_rack.specs.declared.call.Power.{Power}
use Rattle.paraid_rack.specs.declared.call.Power.TheVariants.{Absent, Parked, Spinning}
use Rattle.paraid_rack.specs.Disks.{is_present}
use Rattle.paraid_rack.specs.Slots.{AreSlots, ChangesOneSlot, Slot}
use Rattle.paraid_record.specs.declared.meta.Meta.{Meta}
use Rattle.paraid_txn.specs.Losses.{IsSyncedAt, OnlyLosesSlots, StaySynced}
use Rattle.paraid_txn.specs.Stores.{store_rack}
use Rattle.paraid_core.specs.declared.staged.Core.{Core}
use Rattle.paraid_core.specs.CoreInvariant.{is_copied}
use Rattle.paraid_image.specs.Mark.{meta_with_lost}
use Rattle.paraid_core.specs.Lost.{MarksLost}
use Rattle.paraid_core.specs.Steps.{AreUnsyncedCopied, IsCleared, IsMarkedAt, IsMarkedFrom}

gone_named : (o : Out) (d : ℕ) → gone_out o ≡ Some d → named_out o ≡ Some d
gone_named No d is = is
gone_named (Gone e) d is = is
gone_named (Fresh e u) d is = let z : None ≡ Some d = is in cc

-- a disk that is gone is so still where one was lost, or none
pub gone_still : (m : Meta) (lost : Option ℕ) → ((d x : ℕ) → lost ≡ Some d → named_out m.out ≡ Some x → x ≡ d) → (d : ℕ) → gone_out m.out ≡ Some d → gone_out (meta_with_lost lost m).out ≡ Some d
gone_still m None alone d is = is
gone_still m (Some e) alone d is = ap Some (sym (alone e d refl (gone_named m.out d is)))

pub gone_lost : (old new : ℕ → Slot) (a b : Meta) → MarksLost old new a b → (d : ℕ) → gone_out a.out ≡ Some d → gone_out b.out ≡ Some d
gone_lost old new a b marks d is = ap (λ (m : Meta). gone_out m.out) marks.is ∙ gone_still a marks.lost marks.alone d is

pub gone_marked : (a b : Meta) → IsMarkedFrom a b → (d : ℕ) → gone_out a.out ≡ Some d → gone_out b.out ≡ Some d
gone_marked a b marked d is = ap (λ (m : Meta). gone_out m.out) marked.is ∙ gone_still a marked.lost marked.alone d is

-- a disk that is unsynced has its mark; or it was unsynced before, and its mark is as it was
abbrev pub IsMarkedOrBefore : (ℕ → Slot) → (ℕ → Slot) → List Bool → List Bool → Type 0
IsMarkedOrBefore old new copied copied_then = (d : ℕ) → is_present (new d).power ≡ true → (new d).unsynced ≡ true
    → (is_copied copied_then d ≡ true) ⊎ (((old d).unsynced ≡ true) × (is_copied copied_then d ≡ is_copied copied d))

module _ (old new : ℕ → Slot) (copied copied_then : List Bool) where
  pub marked_still : ((d : ℕ) → is_present (new d).power ≡ true → (new d).power ≡ (old d).power) → IsMarkedOrBefore old new copied copied_then
      → (d : ℕ) → is_present (new d).power ≡ true → (new d).unsynced ≡ true → (is_present (old d).power ≡ true → (old d).unsynced ≡ true → is_copied copied d ≡ true)
      → is_copied copied_then d ≡ true
  marked_still power marks d here wet was = elim (marks d here wet) [
    | inl is ↦ is
    | inr before ↦ before.1 ∙ was (ap is_present (sym (power d here)) ∙ here) before.0
  ]

-- nothing is unsynced that was not so before
pub marks_synced : (old new : ℕ → Slot) (copied : List Bool) → StaySynced old new → IsMarkedOrBefore old new copied copied
marks_synced old new copied synced d here wet = elim (synced d here wet) [ inl was ↦ inr (was, refl) | inr never ↦ absurd never ]

-- one call
module _ (old new : ℕ → Slot) (disk : ℕ) (leaves : Slot) (dirt done : Bool) (touched : ChangesOneSlot old new disk leaves dirt done) where
  not_here : done ≡ false → (d : ℕ) → d ≡ disk → is_present (new d).power ≡ true → ⊥
  not_here failed d same here = false≢true (sym (ap is_present (ap (λ (e : ℕ). (new e).power) same ∙ touched.absent failed)) ∙ here)

  before : (d : ℕ) → d ≢ disk → (new d).unsynced ≡ true → (old d).unsynced ≡ true
  before d apart wet = ap (λ (s : Slot). s.unsynced) (sym (touched.others d apart)) ∙ wet

  -- nothing becomes unsynced but what the call leaves so
  pub one_dry : (leaves.unsynced ≡ true → (old disk).unsynced ≡ true) → StaySynced old new
  one_dry keep d here wet = elim (cases_eq d disk) [
    | inr apart ↦ inl (before d apart wet)
    | inl is ↦ elim (cases_Bool done) [
      | inr failed ↦ absurd (not_here failed d is here)
      | inl did ↦ inl (ap (λ (e : ℕ). (old e).unsynced) is ∙ keep (sym (ap (λ (s : Slot). s.unsynced) (touched.done did)) ∙ ap (λ (e : ℕ). (new e).unsynced) (sym is) ∙ wet))
    ]
  ]

  pub one_synced : leaves.unsynced ≡ false → IsSyncedAt new disk
  one_synced dry here = elim (cases_Bool done) [
    | inr failed ↦ absurd (not_here failed disk refl here)
    | inl did ↦ ap (λ (s : Slot). s.unsynced) (touched.done did) ∙ dry
  ]

  pub marks_written : (copied copied_then : List Bool) → IsMarkedAt copied copied_then disk → IsMarkedOrBefore old new copied copied_then
  marks_written copied copied_then marked d here wet = elim (cases_eq d disk) [
    | inl is ↦ inl (ap (is_copied copied_then) is ∙ marked.here)
    | inr apart ↦ inr (before d apart wet, marked.others d apart)
  ]

  pub marks_cleared : (copied copied_then : List Bool) → leaves.unsynced ≡ false → IsCleared copied copied_then disk → IsMarkedOrBefore old new copied copied_then
  marks_cleared copied copied_then dry cleared d here wet = elim (cases_eq d disk) [
    | inr apart ↦ inr (before d apart wet, cleared.others d apart)
    | inl is ↦ elim (cases_Bool done) [
      | inr failed ↦ absurd (not_here failed d is here)
      | inl did ↦ absurd (false≢true (sym (ap (λ (e : ℕ). (new e).unsynced) is ∙ ap (λ (s : Slot). s.unsynced) (touched.done did) ∙ dry) ∙ wet))
    ]
  ]

  pub marks_read : (copied : List Bool) → leaves.unsynced ≡ (old disk).unsynced → IsMarkedOrBefore old new copied copied
  marks_read copied same d here wet = elim (cases_eq d disk) [
    | inr apart ↦ inr (before d apart wet, refl)
    | inl is ↦ elim (cases_Bool done) [
      | inr failed ↦ absurd (not_here failed d is here)
      | inl did ↦ inr (
        ap (λ (e : ℕ). (old e).unsynced) is ∙ sym same ∙ ap (λ (s : Slot). s.unsynced) (sym (touched.done did)) ∙ ap (λ (e : ℕ). (new e).unsynced) (sym is) ∙ wet,
        refl,
      )
    ]
  ]

-- a disk that does not spin has nothing that is unsynced
pub marks_idle : (count : ℕ) (slot : ℕ → Slot) (disk : ℕ) (copied copied_then : List Bool) → AreSlots count slot → (slot disk).power ≢ Spinning → IsCleared copied copied_then disk → IsMarkedOrBefore slot slot copied copied_then
marks_idle count slot disk copied copied_then are not cleared d here wet = elim (cases_eq d disk) [
  | inr apart ↦ inr (wet, cleared.others d apart)
  | inl is ↦ by (slot d).power refl is
]
  where
    by : (w : Power) → (slot d).power ≡ w → d ≡ disk → (is_copied copied_then d ≡ true) ⊎ (((slot d).unsynced ≡ true) × (is_copied copied_then d ≡ is_copied copied d))
    by Spinning e is = absurd (not (ap (λ (x : ℕ). (slot x).power) (sym is) ∙ e))
    by Absent e is = absurd (false≢true (sym (ap is_present e) ∙ here))
    by Parked e is = absurd (false≢true (sym (are.parked d e) ∙ wet))

module _ {R : Type 0} {g : _} (slot : R → ℕ → Slot) (old new : Core R g) (setup : new.meta.setup ≡ old.meta.setup) (out : (d : ℕ) → gone_out old.meta.out ≡ Some d → gone_out new.meta.out ≡ Some d)
    (spared : OnlyLosesSlots (slot (store_rack old.store)) (slot (store_rack new.store))) where
  pub unsynced_marked : IsMarkedOrBefore (slot (store_rack old.store)) (slot (store_rack new.store)) old.copied new.copied → AreUnsyncedCopied slot old → AreUnsyncedCopied slot new
  unsynced_marked marks was d low stays here wet =
      marked_still (slot (store_rack old.store)) (slot (store_rack new.store)) old.copied new.copied spared.power marks d here wet
      (was d (subst (λ (z : _). d < z.geometry.disks) setup low) (λ is. stays (out d is)))

  pub unsynced_kept : new.copied ≡ old.copied → StaySynced (slot (store_rack old.store)) (slot (store_rack new.store)) → AreUnsyncedCopied slot old → AreUnsyncedCopied slot new
  unsynced_kept copied synced =
      unsynced_marked (subst (IsMarkedOrBefore (slot (store_rack old.store)) (slot (store_rack new.store)) old.copied) (sym copied) (marks_synced (slot (store_rack old.store)) (slot (store_rack new.store)) old.copied synced))

-- no call is made
pub unsynced_same : {R : Type 0} {g : _} (slot : R → ℕ → Slot) (old new : Core R g) → new.store ≡ old.store → new.meta ≡ old.meta → new.copied ≡ old.copied → AreUnsyncedCopied slot old → AreUnsyncedCopied slot new
unsynced_same slot old new store meta copied was d low stays here wet =
    ap (λ (z : List Bool). is_copied z d) copied
    ∙ was d (subst (λ (m : Meta). d < m.setup.geometry.disks) meta low) (λ is. stays (ap (λ (m : Meta). gone_out m.out) meta ∙ is))
    (ap (λ (z : _). is_present (slot (store_rack z) d).power) (sym store) ∙ here) (ap (λ (z : _). (slot (store_rack z) d).unsynced) (sym store) ∙ wet)
