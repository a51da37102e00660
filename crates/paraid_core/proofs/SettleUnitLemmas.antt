-- A disk is synced, and the units that are copied are so still.
use Rattle.std.specs.Prelude.{◌≡◌, ℕ, ◌<◌, Bool, true, false, List, [], Option, Some, None}
use Rattle.std.proofs.Common.{refl, sym, ◌∙◌, ap, subst}
use Rattle.paraid_base.specs.declared.state.Out.TheVariants.{Fresh, Gone}
use Rattle.paraid_base.specs.History.{History}
use Rattle.paraid_rack.specs.declared.call.Call.TheVariants.{Sync}
use Rattle.paraid_rack.specs.Disks.{Disks, IsPresent, step, with_at}
use Rattle.paraid_rack.specs.Slots.{Slot}
use Rattle.paraid_rack.specs.Told.{CrashTriple, GrowsByCall, Ran}
use Rattle.paraid_rack.specs.Trail.{Trail, now}
use Rattle.paraid_rack.proofs.TrailsLemmas.{called, stays}
use Rattle.paraid_record.specs.declared.meta.Meta.{Meta}
use Rattle.paraid_image.specs.Content.{view_by}
use Rattle.paraid_image.specs.Sound.{AreRebuilt}
use Rattle.paraid_image.specs.Standing.{Contents}
use Rattle.paraid_image.specs.Mark.{meta_with_lost}
use Rattle.paraid_moves.specs.Copying.{IsCopying}
use Rattle.paraid_moves.proofs.CopyCommitLemmas.{copying_sync}
use Rattle.paraid_txn.specs.Stores.{named_of, store_rack}
use Rattle.paraid_core.specs.declared.staged.Core.{Core}
use Rattle.paraid_core.specs.CoreInvariant.{HoldsBetweenCalls, IsWitnessBorne, is_copied}
use Rattle.paraid_core.specs.Cores.{IsCoreHeldSinceCommit}
use Rattle.paraid_core.specs.Fills.{IsShiftCommitted}
use Rattle.paraid_core.specs.Steps.{IsCleared, IsMarkedFrom, LeavesCore}
use Rattle.paraid_core.specs.Units.{KeepsRebuilt, StaysRebuilt, UnitsRebuilt}
use Rattle.paraid_core.proofs.BorneLemmas.{borne_synced}
use Rattle.paraid_core.proofs.CallLemmas.{contents_still, keeps_held, keeps_loose, keeps_marked, loose_base, marked_base}
use Rattle.paraid_core.proofs.SettleLemmas.{place_synced, self_at}
use Rattle.paraid_core.proofs.StepLemmas.{runs_none, runs_then}

module _ (slots : ℕ) (named : Option ℕ) (m : Meta) (table : List (List Bool)) (copied copied_then : List Bool) (h : History) (lo end : ℕ) (s : Disks) (kr : KeepsRebuilt slots named m table copied h lo end s) where
  pub units_unmarked : ((x p : ℕ) → IsPresent s x → (x < m.setup.geometry.disks → is_copied copied_then x ≡ false) → s.loose x p ≡ false) → KeepsRebuilt slots named m table copied_then h lo end s
  units_unmarked synced = record {
    keeps = keeps_marked slots named m table [] copied h lo copied_then s synced kr.keeps;
    shift = subst (λ (b : Meta). IsShiftCommitted b m) (sym (marked_base slots named m table [] copied h lo copied_then s synced kr.keeps)) kr.shift;
    rebuilt = kr.rebuilt;
  }

  module _ (d : ℕ) (cleared : IsCleared copied copied_then d) where
    abbrev dry : ℕ → ℕ → Bool
    dry = with_at s.loose d (λ q. false)

    step_is : step (Sync d true) s ≡ record s { loose = dry }
    unfolding step
    step_is = λ i. record { power = self_at s.power d i; size = self_at s.size d i; block = s.block; loose = dry }

    copying : IsCopying (record s { loose = dry }) kr.keeps.base kr.keeps.held
    copying = subst (λ (t : Disks). IsCopying t kr.keeps.base kr.keeps.held) step_is (copying_sync s kr.keeps.base kr.keeps.held d kr.keeps.copies.copying)

    places : (x p : ℕ) → IsPresent s x → (x < m.setup.geometry.disks → is_copied copied_then x ≡ false) → dry x p ≡ false
    places x p here copies_synced =
        ap (λ (t : Disks). t.loose x p) (sym step_is)
        ∙ place_synced slots named m table [] copied copied_then h lo s d cleared kr.keeps x p (subst (λ (t : Disks). IsPresent t x) (sym step_is) here) copies_synced

    borne : IsWitnessBorne named (record s { loose = dry })
    borne = subst (IsWitnessBorne named) step_is (borne_synced named s kr.keeps.borne d true)

    units_dry : KeepsRebuilt slots named m table copied_then h lo end (record s { loose = dry })
    units_dry = record {
      keeps = keeps_loose slots named m table [] copied h lo copied_then s dry kr.keeps copying places borne;
      shift = subst (λ (b : Meta). IsShiftCommitted b m) (sym (loose_base slots named m table [] copied h lo copied_then s dry kr.keeps copying places borne)) kr.shift;
      rebuilt = λ e units is. subst (λ (f : Contents). AreRebuilt (view_by m s.power f) e end) (sym (contents_still slots named m table [] copied h lo s dry)) (kr.rebuilt e units (record { is = is.is; present = is.present }));
    }

    pub units_synced : (done : Bool) → done ≡ true → KeepsRebuilt slots named m table copied_then h lo end (step (Sync d done) s)
    units_synced done is =
        subst (λ (b : Bool). KeepsRebuilt slots named m table copied_then h lo end (step (Sync d b) s)) (sym is)
        (subst (KeepsRebuilt slots named m table copied_then h lo end) (sym step_is) units_dry)

-- where a disk is being rebuilt, none was lost
pub unmarked_fresh : (a b : Meta) (d units : ℕ) → IsMarkedFrom a b → b.out ≡ Fresh d units → b ≡ a
unmarked_fresh a b d units marked fresh = by marked.lost refl
  where
    by : (o : Option ℕ) → marked.lost ≡ o → b ≡ a
    by None e = marked.is ∙ ap (λ (o : Option ℕ). meta_with_lost o a) e
    by (Some x) e = let z : Gone x ≡ Fresh d units = sym (ap (λ (m : Meta). m.out) (marked.is ∙ ap (λ (o : Option ℕ). meta_with_lost o a) e)) ∙ fresh in absurd cc

-- where the record is told
module _ {R : Type 0} {g : _} (count : R → ℕ) (told : R → Option Trail) (old : Core R g) (copied_then : List Bool) where
  abbrev was : Meta
  was = old.meta

  abbrev slots_was : ℕ
  slots_was = count (store_rack old.store)

  abbrev name : Option ℕ
  name = named_of old.store

  pub sync_units : (told_then : Option Trail) (d : ℕ) (done : Bool) → GrowsByCall (told (store_rack old.store)) told_then (Sync d done) → IsCleared old.copied copied_then d → done ≡ true
      → (slots_then : ℕ) (named_then : Option ℕ) → slots_then ≡ slots_was → named_then ≡ name → (h : History) (lo end : ℕ)
      → Ran (told (store_rack old.store)) told_then (CrashTriple (IsCoreHeldSinceCommit count old h lo) (UnitsRebuilt count old h lo end) (KeepsRebuilt slots_then named_then was old.dirty copied_then h lo end))
  sync_units told_then d done grows cleared is slots_then named_then es en h lo end =
      subst (λ (z : ℕ). Ran (told (store_rack old.store)) told_then (CrashTriple (IsCoreHeldSinceCommit count old h lo) (UnitsRebuilt count old h lo end) (KeepsRebuilt z named_then was old.dirty copied_then h lo end))) (sym es)
      (subst (λ (z : Option ℕ). Ran (told (store_rack old.store)) told_then (CrashTriple (IsCoreHeldSinceCommit count old h lo) (UnitsRebuilt count old h lo end) (KeepsRebuilt slots_was z was old.dirty copied_then h lo end))) (sym en)
      (called (IsCoreHeldSinceCommit count old h lo) (UnitsRebuilt count old h lo end) (KeepsRebuilt slots_was name was old.dirty copied_then h lo end) _ _ (Sync d done) grows
      (λ s kr. keeps_held slots_was name was old.dirty [] old.copied h lo s kr.keeps) (λ s kr. keeps_held slots_was name was old.dirty [] copied_then h lo s kr.keeps)
      (λ s kr. units_synced slots_was name was old.dirty old.copied copied_then h lo end s kr d cleared done is)))

  -- no call is made
  pub units_idle : ((t : Trail) (x p : ℕ) → told (store_rack old.store) ≡ Some t → IsPresent (now t) x → (x < was.setup.geometry.disks → is_copied copied_then x ≡ false) → (h : History) (lo : ℕ)
      → HoldsBetweenCalls slots_was name was old.dirty [] old.copied h lo (now t) → (now t).loose x p ≡ false) → (h : History) (lo end : ℕ)
      → Ran (told (store_rack old.store)) (told (store_rack old.store)) (CrashTriple (IsCoreHeldSinceCommit count old h lo) (UnitsRebuilt count old h lo end) (KeepsRebuilt slots_was name was old.dirty copied_then h lo end))
  units_idle dry h lo end =
      stays (IsCoreHeldSinceCommit count old h lo) (UnitsRebuilt count old h lo end) (KeepsRebuilt slots_was name was old.dirty copied_then h lo end) (told (store_rack old.store))
      (λ s kr. keeps_held slots_was name was old.dirty [] copied_then h lo s kr.keeps)
      (λ t tells kr. units_unmarked slots_was name was old.dirty old.copied copied_then h lo end (now t) kr (λ x p here synced. dry t x p tells here synced h lo kr.keeps))

module _ {R : Type 0} {g : _} (count : R → ℕ) (slot : R → ℕ → Slot) (told : R → Option Trail) where
  pub units_none : (a : Core R g) → StaysRebuilt count told a a
  units_none a d units fresh = (refl, λ h lo end. runs_none count slot told a (UnitsRebuilt count a h lo end) h lo (λ s kr. kr.keeps))

  pub units_then : (a b c : Core R g) → LeavesCore count slot a b → LeavesCore count slot b c → StaysRebuilt count told a b → StaysRebuilt count told b c → StaysRebuilt count told a c
  units_then a b c first second one two d units fresh =
      let same = unmarked_fresh b.meta c.meta d units second.meta fresh in
      let was = one d units (ap (λ (m : Meta). m.out) (sym same) ∙ fresh) in
      let after = two d units fresh in
      (same ∙ was.0, λ h lo end. runs_then count slot told a b first c (UnitsRebuilt count a h lo end) (UnitsRebuilt count b h lo end) (UnitsRebuilt count c h lo end) h lo (was.1 h lo end) (after.1 h lo end))
