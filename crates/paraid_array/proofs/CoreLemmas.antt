-- From the clauses of a core to what is told of its calls in an event of an array.
use Rattle.std.proofs.Common.{◌≡◌, ◌≢◌, ℕ, ◌<◌, ◌⊎◌, Bool, true, false, List, [], Option, Some, None, refl, sym, ap, ◌∙◌, inl, inr, subst, arith, if◌then◌else◌}
use Rattle.std.specs.Prelude.{◌==◌}
use Rattle.std.proofs.lemmas.Bool.Decides.{nat_tests}
use Rattle.paraid_base.specs.declared.fault.Two.{Two}
use Rattle.paraid_base.specs.History.{History}
use Rattle.paraid_rack.specs.Disks.{Disks, is_present}
use Rattle.paraid_rack.specs.Slots.{Agrees, Slot}
use Rattle.paraid_rack.specs.Told.{CrashTriple, Ran}
use Rattle.paraid_rack.specs.Trail.{Trail, now}
use Rattle.paraid_rack.proofs.TrailsLemmas.{now-extend}
use Rattle.paraid_record.specs.declared.meta.Setup.{Setup}
use Rattle.paraid_image.specs.Out.{named_out, or_else}
use Rattle.paraid_txn.specs.Stores.{named_of, store_rack}
use Rattle.paraid_core.specs.declared.staged.Core.{Core}
use Rattle.paraid_core.specs.Calls.{CommitsWhole, MakesDataCalls, MakesTransferCalls}
use Rattle.paraid_core.specs.Cores.{CanCoreServe, CoreStandsFor, IsCoreHeld, IsCoreReady, core_down, core_rack}
use Rattle.paraid_core.specs.Lost.{CoreMarksLost, CoreTellsLosses}
use Rattle.paraid_core.specs.Steps.{AreUnsyncedCopied}
use Rattle.paraid_session.specs.Powers.{FitsSlots}
use Rattle.paraid_session.specs.Turn.{Point}
use Rattle.paraid_event.specs.CoreServing.{IsCoreServing}
use Rattle.paraid_upkeep.specs.Service.{IsOutKnown}
use Rattle.paraid_upkeep.proofs.OutLemmas.{known_then}
use Rattle.paraid_upkeep.proofs.ServiceLemmas.{fits_then, service_serving, service_then, serving_service}
use Rattle.paraid_event.specs.Lost.{TellsTwo}
use Rattle.paraid_event.specs.Marks.{IsMarkedBy}
use Rattle.paraid_event.specs.Parts.{LosesInEvent, ServesEvent}
use Rattle.paraid_event.specs.Service.{service_of}
use Rattle.paraid_event.specs.Stands.{StandsAt}
use Rattle.paraid_event.proofs.GivenLemmas.{between_loses, between_serves, commit_loses, commit_serves}
use Rattle.paraid_event.proofs.SlotsLemmas.{marked_by_slots}
use Rattle.paraid_array.specs.Lasting.{IsArrayServing}

-- what the disks are at the end
pub reached : (P A B : Disks → Type 0) (told told_then : Option Trail) → Ran told told_then (CrashTriple P A B) → ((t : Trail) → told ≡ Some t → A (now t)) → (t : Trail) → told_then ≡ Some t → B (now t)
reached P A B told told_then ran from t tells =
    let r = ran t tells in
    subst B (sym (ap now r.is ∙ now-extend r.from r.calls)) (r.holds.goes (from r.from r.was)).1

same_disk : (a b : ℕ) → (a == b) ≡ true → a ≡ b
same_disk a b e = grind (e, arith, nat_tests)

other_disk : (a b : ℕ) → (a == b) ≡ false → a ≡ b → ⊥
other_disk a b e same = grind (e, same, arith, nat_tests)

named_or : (o : Option ℕ) (d : ℕ) (X : Type 0) → (o ≢ Some d → X) → (o ≡ Some d) ⊎ X
named_or None d X f = inr (f (λ e. let z : None ≡ Some d = e in cc))
named_or (Some x) d X f = by (x == d) refl
  where
    by : (b : Bool) → (x == d) ≡ b → (Some x ≡ Some d) ⊎ X
    by true e = inl (ap (λ (y : ℕ). Some y) (same_disk x d e))
    by false e = inr (f (λ s. let z : x ≡ d = cc in other_disk x d e z))

module _ {R : Type 0} {g : _} (count : R → ℕ) (slot : R → ℕ → Slot) where
  pub known_of : (a : Core R g) (lengths : List ℕ) (setup : Setup) (slots : ℕ) → IsArrayServing count slot a lengths setup slots → IsOutKnown slot a
  known_of a lengths setup slots q = record {
    absent = λ d is. named_or (named_of a.store) d (is_present (slot (store_rack a.store) d).power ≡ false) (q.absent d is);
    named = q.named;
    spins = q.spins;
  }

  pub serving_of : (b : Core R g) (lengths : List ℕ) (setup : Setup) (slots : ℕ) → IsCoreServing count slot b → IsOutKnown slot b → FitsSlots (slot (store_rack b.store)) b.meta → lengths ≡ setup.windows → b.meta.setup ≡ setup → count (store_rack b.store) ≡ slots
      → IsArrayServing count slot b lengths setup slots
  serving_of b lengths setup slots serving known fits windows same same_slots = record {
    serving = serving;
    absent = λ d is not. elim (known.absent d is) [ inl named ↦ absurd (not named) | inr away ↦ away ];
    named = known.named;
    spins = known.spins;
    fits = fits;
    windows = windows;
    same_setup = same;
    same_slots = same_slots;
  }

  -- after a call of the core
  pub serving_then : (a b : Core R g) (lengths : List ℕ) (setup : Setup) (slots : ℕ) (flag : Bool) → IsArrayServing count slot a lengths setup slots → CoreMarksLost slot a b → b.meta.setup ≡ a.meta.setup
      → count (store_rack b.store) ≡ count (store_rack a.store) → IsCoreReady count slot b → CanCoreServe slot b
      → b.draft ≡ [] → b.copied ≡ a.copied → (AreUnsyncedCopied slot a → AreUnsyncedCopied slot b) → named_of b.store ≡ (if flag then named_out a.meta.out else named_of a.store) → IsArrayServing count slot b lengths setup slots
  serving_then a b lengths setup slots flag q marks same same_slots ready serves draft copied unsynced names =
      serving_of b lengths setup slots
      (service_serving count slot b (service_then count slot a b (serving_service count slot a q.serving) marks same ready serves draft copied) (unsynced q.serving.unsynced))
      (known_then slot a b flag (known_of a lengths setup slots q) marks names) (fits_then count slot a b marks same q.fits) q.windows (same ∙ q.same_setup) (same_slots ∙ q.same_slots)

-- A disk that the last commit names out is named out by the meta: so the disk that is down is that one.
module _ {R : Type 0} {g : _} (slot : R → ℕ → Slot) where
  down_named : (a : Core R g) → CanCoreServe slot a → core_down a ≡ named_out a.meta.out
  down_named a serves = by (named_of a.store) refl
    where
      by : (o : Option ℕ) → named_of a.store ≡ o → or_else o (named_out a.meta.out) ≡ named_out a.meta.out
      by None e = refl
      by (Some d) e = sym (serves.stays d e)

  pub tells_by_down : (told : R → Option Trail) (a b : Core R g) (two : Two) → CanCoreServe slot a → CoreTellsLosses told (core_down a) a b two → CoreTellsLosses told (named_out a.meta.out) a b two
  tells_by_down told a b two serves tells = subst (λ (o : Option ℕ). CoreTellsLosses told o a b two) (down_named a serves) tells

module _ {R : Type 0} {g : _} (count : R → ℕ) (slot : R → ℕ → Slot) (told : R → Option Trail) (agrees : (x : R) (t : Trail) → told x ≡ Some t → Agrees (now t) (slot x)) (a b : Core R g) where
  out_by : (d : ℕ) → core_down a ≡ Some d → (named_of a.store ≡ Some d) ⊎ (named_out a.meta.out ≡ Some d)
  out_by d is = by (named_of a.store) is
    where
      by : (o : Option ℕ) → or_else o (named_out a.meta.out) ≡ Some d → (o ≡ Some d) ⊎ (named_out a.meta.out ≡ Some d)
      by None e = inr e
      by (Some x) e = inl e

  module _ (samples : List ℕ) (requests energy : ℕ) (setup : Setup) (p : Point) (at : StandsAt (told (core_rack a)) (service_of count a samples requests energy) setup p) (flag : Bool) (calls : MakesTransferCalls told a b)
      (kept : flag ≡ false → MakesDataCalls told a b) (whole : flag ≡ true → CommitsWhole count told a b) where
    -- a call that ends
    pub serves_core : (samples_then : List ℕ) (requests_then energy_then : ℕ) (h_then : History) (lo_then : ℕ)
        → Ran (told (core_rack a)) (told (core_rack b)) (CrashTriple (IsCoreHeld count a p.history p.low) (CoreStandsFor count a p.history p.low) (CoreStandsFor count b h_then lo_then))
        → CoreMarksLost slot a b → IsCoreReady count slot b → b.meta.setup ≡ a.meta.setup
        → Ran (told (core_rack a)) (told (core_rack b)) (ServesEvent (service_of count a samples requests energy) (service_of count b samples_then requests_then energy_then) p.history p.low h_then lo_then)
    serves_core samples_then requests_then energy_then h_then lo_then stands marks ready same = by flag kept whole
      where
        marked : (t : Trail) → told (core_rack b) ≡ Some t → IsMarkedBy (now t).power a.meta b.meta
        marked = marked_by_slots (told (core_rack a)) (told (core_rack b)) (service_of count a samples requests energy) b.meta setup p at (slot (core_rack a)) (slot (core_rack b)) _ calls (agrees (core_rack a)) (agrees (core_rack b)) marks
            (λ d low gone. ready.absent d (subst (λ (z : Setup). d < z.geometry.disks) (sym same) low) gone)

        by : (f : Bool) → (f ≡ false → MakesDataCalls told a b) → (f ≡ true → CommitsWhole count told a b) → Ran (told (core_rack a)) (told (core_rack b)) (ServesEvent (service_of count a samples requests energy) (service_of count b samples_then requests_then energy_then) p.history p.low h_then lo_then)
        by false past both = between_serves (told (core_rack a)) (told (core_rack b)) (service_of count a samples requests energy) (service_of count b samples_then requests_then energy_then) p.history p.low h_then lo_then (core_down a) out_by (past refl) stands marked
        by true past both = commit_serves (told (core_rack a)) (told (core_rack b)) (service_of count a samples requests energy) (service_of count b samples_then requests_then energy_then) p.history p.low h_then lo_then (core_down a) out_by calls stands (both refl p.history p.low) marked

    -- a call in which a second disk is lost
    pub loses_core : (two : Two) → Ran (told (core_rack a)) (told (core_rack b)) (CrashTriple (IsCoreHeld count a p.history p.low) (CoreStandsFor count a p.history p.low) (IsCoreHeld count a p.history p.low))
        → Ran (told (core_rack a)) (told (core_rack b)) (TellsTwo (service_of count a samples requests energy) two)
        → Ran (told (core_rack a)) (told (core_rack b)) (λ s cs. LosesInEvent (service_of count a samples requests energy) p.history p.low s cs × TellsTwo (service_of count a samples requests energy) two s cs)
    loses_core two moments tells = by flag kept whole
      where
        by : (f : Bool) → (f ≡ false → MakesDataCalls told a b) → (f ≡ true → CommitsWhole count told a b) → Ran (told (core_rack a)) (told (core_rack b)) (λ s cs. LosesInEvent (service_of count a samples requests energy) p.history p.low s cs × TellsTwo (service_of count a samples requests energy) two s cs)
        by false past both = between_loses (told (core_rack a)) (told (core_rack b)) (service_of count a samples requests energy) (service_of count a samples requests energy) p.history p.low p.history p.low (core_down a) out_by (TellsTwo (service_of count a samples requests energy) two) (past refl) moments tells
        by true past both = commit_loses (told (core_rack a)) (told (core_rack b)) (service_of count a samples requests energy) (service_of count a samples requests energy) p.history p.low p.history p.low (core_down a) out_by (TellsTwo (service_of count a samples requests energy) two) calls moments (both refl p.history p.low) tells
