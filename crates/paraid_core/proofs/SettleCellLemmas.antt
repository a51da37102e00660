-- A disk is synced, and the cells that are copied are so still.
use Rattle.std.specs.Prelude.{◌≡◌, ℕ, ◌<◌, Bool, true, false, List, [], ◌∷◌, Option, Some}
use Rattle.std.proofs.Common.{refl, sym, ◌∙◌, ap, subst}
use Rattle.paraid_base.specs.History.{History}
use Rattle.paraid_rack.specs.declared.call.Call.TheVariants.{Sync}
use Rattle.paraid_rack.specs.Slots.{Slot}
use Rattle.paraid_rack.specs.Told.{CrashTriple, GrowsByCall, Ran}
use Rattle.paraid_rack.specs.Trail.{Trail, now}
use Rattle.paraid_rack.specs.Disks.{Disks, IsPresent, step, with_at}
use Rattle.paraid_rack.proofs.TrailsLemmas.{stays}
use Rattle.paraid_record.specs.declared.meta.Meta.{Meta}
use Rattle.paraid_image.specs.Content.{view_by}
use Rattle.paraid_image.specs.Sides.{Batch}
use Rattle.paraid_image.specs.Standing.{Contents}
use Rattle.paraid_moves.specs.Copying.{IsCopying}
use Rattle.paraid_moves.specs.MoveMetas.{AreCellsCopied}
use Rattle.paraid_moves.proofs.CopyCommitLemmas.{copying_sync}
use Rattle.paraid_txn.specs.Stores.{named_of, store_rack}
use Rattle.paraid_core.specs.declared.staged.Core.{Core}
use Rattle.paraid_core.specs.CellCopies.{CellsCopied, KeepsCellCopies, StaysCopied}
use Rattle.paraid_core.specs.CoreInvariant.{HoldsBetweenCalls, IsWitnessBorne, is_copied}
use Rattle.paraid_core.specs.Cores.{IsCoreHeldSinceCommit}
use Rattle.paraid_core.specs.Fills.{IsShiftCommitted}
use Rattle.paraid_core.specs.Steps.{IsCleared, LeavesCore}
use Rattle.paraid_core.proofs.BorneLemmas.{borne_synced}
use Rattle.paraid_core.proofs.CallLemmas.{contents_still, keeps_held, keeps_loose, keeps_marked, loose_base, marked_base}
use Rattle.paraid_core.proofs.SettleLemmas.{place_synced, self_at}
use Rattle.paraid_core.proofs.StepLemmas.{runs_then, unmarked}

module _ (slots : ℕ) (named : Option ℕ) (m : Meta) (table : List (List Bool)) (batch : Batch) (copied copied_then : List Bool) (h : History) (lo : ℕ) (cells : ℕ → ℕ → Bool) (s : Disks)
    (kc : KeepsCellCopies slots named m table batch copied h lo cells s) where
  pub cells_unmarked : ((x p : ℕ) → IsPresent s x → (x < m.setup.geometry.disks → is_copied copied_then x ≡ false) → s.loose x p ≡ false) → KeepsCellCopies slots named m table batch copied_then h lo cells s
  cells_unmarked synced = record {
    keeps = keeps_marked slots named m table batch copied h lo copied_then s synced kc.keeps;
    shift = subst (λ (b : Meta). IsShiftCommitted b m) (sym (marked_base slots named m table batch copied h lo copied_then s synced kc.keeps)) kc.shift;
    stored = kc.stored;
  }

  module _ (d : ℕ) (cleared : IsCleared copied copied_then d) where
    abbrev dry : ℕ → ℕ → Bool
    dry = with_at s.loose d (λ q. false)

    step_is : step (Sync d true) s ≡ record s { loose = dry }
    unfolding step
    step_is = λ i. record { power = self_at s.power d i; size = self_at s.size d i; block = s.block; loose = dry }

    copying : IsCopying (record s { loose = dry }) kc.keeps.base kc.keeps.held
    copying = subst (λ (t : Disks). IsCopying t kc.keeps.base kc.keeps.held) step_is (copying_sync s kc.keeps.base kc.keeps.held d kc.keeps.copies.copying)

    places : (x p : ℕ) → IsPresent s x → (x < m.setup.geometry.disks → is_copied copied_then x ≡ false) → dry x p ≡ false
    places x p here copies_synced =
        ap (λ (t : Disks). t.loose x p) (sym step_is)
        ∙ place_synced slots named m table batch copied copied_then h lo s d cleared kc.keeps x p (subst (λ (t : Disks). IsPresent t x) (sym step_is) here) copies_synced

    borne : IsWitnessBorne named (record s { loose = dry })
    borne = subst (IsWitnessBorne named) step_is (borne_synced named s kc.keeps.borne d true)

    cells_dry : KeepsCellCopies slots named m table batch copied_then h lo cells (record s { loose = dry })
    cells_dry = record {
      keeps = keeps_loose slots named m table batch copied h lo copied_then s dry kc.keeps copying places borne;
      shift = subst (λ (b : Meta). IsShiftCommitted b m) (sym (loose_base slots named m table batch copied h lo copied_then s dry kc.keeps copying places borne)) kc.shift;
      stored = subst (λ (f : Contents). AreCellsCopied (view_by m s.power f) cells) (sym (contents_still slots named m table batch copied h lo s dry)) kc.stored;
    }

    pub cells_synced : (done : Bool) → done ≡ true → KeepsCellCopies slots named m table batch copied_then h lo cells (step (Sync d done) s)
    cells_synced done is =
        subst (λ (b : Bool). KeepsCellCopies slots named m table batch copied_then h lo cells (step (Sync d b) s)) (sym is)
        (subst (KeepsCellCopies slots named m table batch copied_then h lo cells) (sym step_is) cells_dry)

-- where the record is told
module _ {R : Type 0} {g : _} (count : R → ℕ) (told : R → Option Trail) (old : Core R g) (copied_then : List Bool) where
  abbrev was : Meta
  was = old.meta

  abbrev slots_was : ℕ
  slots_was = count (store_rack old.store)

  abbrev name : Option ℕ
  name = named_of old.store

  pub sync_copied : (told_then : Option Trail) (d : ℕ) (done : Bool) → GrowsByCall (told (store_rack old.store)) told_then (Sync d done) → IsCleared old.copied copied_then d → done ≡ true
      → (slots_then : ℕ) (named_then : Option ℕ) → slots_then ≡ slots_was → named_then ≡ name → (h : History) (lo : ℕ) (cells : ℕ → ℕ → Bool)
      → Ran (told (store_rack old.store)) told_then (CrashTriple (IsCoreHeldSinceCommit count old h lo) (CellsCopied count old h lo cells) (KeepsCellCopies slots_then named_then was old.dirty old.batch copied_then h lo cells))
  sync_copied told_then d done grows cleared is slots_then named_then es en h lo cells t tells =
      let r = grows t tells in
      let s = now r.0 in
      record {
        from = r.0;
        was = r.1;
        calls = Sync d done ∷ [];
        is = r.2;
        holds = record {
          goes = λ kc.
              let next = cells_synced slots_was name was old.dirty old.batch old.copied copied_then h lo cells s kc d cleared done is in (
                (keeps_held slots_was name was old.dirty old.batch old.copied h lo s kc.keeps, keeps_held slots_was name was old.dirty old.batch copied_then h lo (step (Sync d done) s) next.keeps),
                subst (λ (z : ℕ). KeepsCellCopies z named_then was old.dirty old.batch copied_then h lo cells (step (Sync d done) s)) (sym es)
                    (subst (λ (z : Option ℕ). KeepsCellCopies slots_was z was old.dirty old.batch copied_then h lo cells (step (Sync d done) s)) (sym en) next),
              );
        };
      }

  -- no call is made
  pub copied_marked : ((t : Trail) (x p : ℕ) → told (store_rack old.store) ≡ Some t → IsPresent (now t) x → (x < was.setup.geometry.disks → is_copied copied_then x ≡ false) → (h : History) (lo : ℕ)
      → HoldsBetweenCalls slots_was name was old.dirty old.batch old.copied h lo (now t) → (now t).loose x p ≡ false) → (h : History) (lo : ℕ) (cells : ℕ → ℕ → Bool)
      → Ran (told (store_rack old.store)) (told (store_rack old.store)) (CrashTriple (IsCoreHeldSinceCommit count old h lo) (CellsCopied count old h lo cells) (KeepsCellCopies slots_was name was old.dirty old.batch copied_then h lo cells))
  copied_marked places h lo cells =
      stays (IsCoreHeldSinceCommit count old h lo) (CellsCopied count old h lo cells) (KeepsCellCopies slots_was name was old.dirty old.batch copied_then h lo cells) (told (store_rack old.store))
      (λ s kc. keeps_held slots_was name was old.dirty old.batch copied_then h lo s kc.keeps)
      (λ t tells kc. cells_unmarked slots_was name was old.dirty old.batch old.copied copied_then h lo cells (now t) kc (λ x p here synced. places t x p tells here synced h lo kc.keeps))

module _ {R : Type 0} {g : _} (count : R → ℕ) (slot : R → ℕ → Slot) (told : R → Option Trail) where
  pub copied_none : (a : Core R g) → StaysCopied count told a a
  copied_none a whole = (
    refl,
    λ h lo cells. stays (IsCoreHeldSinceCommit count a h lo) (CellsCopied count a h lo cells) (CellsCopied count a h lo cells) (told (store_rack a.store))
        (λ s kc. keeps_held (count (store_rack a.store)) (named_of a.store) a.meta a.dirty a.batch a.copied h lo s kc.keeps) (λ t tells kc. kc),
  )

  pub copied_then : (a b c : Core R g) → LeavesCore count slot a b → LeavesCore count slot b c → StaysCopied count told a b → StaysCopied count told b c → StaysCopied count told a c
  copied_then a b c first second one two whole =
      let same = unmarked b.meta c.meta second.meta whole in
      let was = one (ap (λ (m : Meta). m.out) (sym same) ∙ whole) in
      let now = two whole in
      (same ∙ was.0, λ h lo cells. runs_then count slot told a b first c (CellsCopied count a h lo cells) (CellsCopied count b h lo cells) (CellsCopied count c h lo cells) h lo (was.1 h lo cells) (now.1 h lo cells))
