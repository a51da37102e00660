-- A disk is synced.
use Rattle.paraid_image.specs.Mark.{meta_after_loss}
use Rattle.std.specs.Prelude.{◌≡◌, ◌≢◌, ℕ, ◌<◌, Bool, true, false, List, [], ◌∷◌, Option, Some, None, length, slice_set}
use Rattle.std.proofs.Common.{refl, sym, ◌∙◌, ap, subst, arith, inl, inr}
use Rattle.std.proofs.lemmas.Bool.{cases_Bool, cases_eq, cases_lt, false≢true}
use Rattle.std.proofs.lemmas.List.{get_or-set_other, get_or-set_same, get_or_past, length-set}
use Rattle.paraid_base.specs.History.{History}
use Rattle.paraid_rack.specs.declared.call.Call.TheVariants.{Sync}
use Rattle.paraid_rack.specs.declared.call.Power.{Power}
use Rattle.paraid_rack.specs.declared.call.Power.TheVariants.{Absent, Parked, Spinning}
use Rattle.paraid_rack.specs.Slots.{Agrees, AreSlots, Slot}
use Rattle.paraid_rack.specs.Told.{CrashTriple, GrowsByCall, Ran}
use Rattle.paraid_rack.specs.Trail.{Trail, now}
use Rattle.paraid_rack.specs.Disks.{Disks, IsPresent, is_present, step, with_at}
use Rattle.paraid_rack.proofs.AtomsLemmas.{with_at_other, with_at_same}
use Rattle.paraid_rack.proofs.TrailsLemmas.{stays}
use Rattle.paraid_record.specs.declared.meta.Meta.{Meta}
use Rattle.paraid_record.specs.Range.{IsInRange}
use Rattle.paraid_image.specs.Out.{named_out}
use Rattle.paraid_image.specs.Sides.{Batch}
use Rattle.paraid_image.specs.Standing.{Contents}
use Rattle.paraid_moves.specs.Copying.{IsCopying}
use Rattle.paraid_moves.specs.MoveMetas.{AreStripesCopied, view_with_out}
use Rattle.paraid_moves.proofs.CopyCommitLemmas.{copying_sync}
use Rattle.paraid_txn.specs.Stores.{named_of, store_rack}
use Rattle.paraid_core.specs.declared.staged.Core.{Core}
use Rattle.paraid_core.specs.CoreInvariant.{HoldsBetweenCalls, IsWitnessBorne, is_copied}
use Rattle.paraid_core.specs.Cores.{IsCoreHeldSinceCommit}
use Rattle.paraid_core.specs.Fills.{Filled, IsShiftCommitted, KeepsFilled}
use Rattle.paraid_core.specs.Steps.{IsCleared}
use Rattle.paraid_core.proofs.BorneLemmas.{borne_synced}
use Rattle.paraid_core.proofs.CallLemmas.{contents_still, keeps_held, keeps_loose, keeps_marked, keeps_still, loose_base, marked_base}
use Rattle.paraid_core.proofs.LostDiskLemmas.{keeps_failed}

-- a function that is set to what it is
pub self_at : {A : Type 0} (p : ℕ → A) (d : ℕ) → with_at p d (p d) ≡ p
self_at {A} p d = λ t. λ x. (at x) t
  where
    at : (x : ℕ) → with_at p d (p d) x ≡ p x
    at x = elim (cases_eq x d) [ inl is ↦ with_at_same p d (p d) x is ∙ ap p (sym is) | inr apart ↦ with_at_other p d (p d) x apart ]

-- the mark of one disk is taken away
pub cleared_at : (copied : List Bool) (d : ℕ) → IsCleared copied (slice_set copied d false) d
cleared_at copied d = record {
  here = elim (cases_lt d (length copied)) [
    | inl low ↦ get_or-set_same copied d false false low
    | inr high ↦ get_or_past (slice_set copied d false) d false (let e = length-set copied d false in omega arith)
  ];
  others = λ x apart. get_or-set_other copied d x false false apart;
}

module _ (slots : ℕ) (named : Option ℕ) (m : Meta) (table : List (List Bool)) (batch : Batch) (copied copied_then : List Bool) (h : History) (lo : ℕ) (s : Disks) (d : ℕ)
    (cleared : IsCleared copied copied_then d) (k : HoldsBetweenCalls slots named m table batch copied h lo s) where
  pub place_synced : (x p : ℕ) → IsPresent (step (Sync d true) s) x → (x < m.setup.geometry.disks → is_copied copied_then x ≡ false) → (step (Sync d true) s).loose x p ≡ false
  unfolding step
  place_synced x p here copies_synced = elim (cases_eq x d) [
    | inl is ↦ ap (λ (l : ℕ → Bool). l p) (with_at_same s.loose d (λ q. false) x is)
    | inr apart ↦
        ap (λ (l : ℕ → Bool). l p) (with_at_other s.loose d (λ q. false) x apart)
        ∙ k.synced x p (ap is_present (ap (λ f. f x) (sym (self_at s.power d))) ∙ here) (λ low. sym (cleared.others x apart) ∙ copies_synced low)
  ]

  synced : HoldsBetweenCalls slots named m table batch copied_then h lo (step (Sync d true) s)
  unfolding step
  synced = keeps_still slots named m table batch copied h lo copied_then s (step (Sync d true) s) (self_at s.power d) (self_at s.size d) refl k (copying_sync s k.base k.held d k.copies.copying) place_synced (borne_synced named s k.borne d true)

  pub keeps_synced : (done : Bool) → done ≡ true → HoldsBetweenCalls slots named m table batch copied_then h lo (step (Sync d done) s)
  keeps_synced done is = subst (λ (b : Bool). HoldsBetweenCalls slots named m table batch copied_then h lo (step (Sync d b) s)) (sym is) synced

  not_here : (x : ℕ) → x ≡ d → (done : Bool) → done ≡ false → IsPresent (step (Sync d done) s) x → ⊥
  unfolding step
  not_here x is done failed here =
      let gone : (step (Sync d false) s).power x ≡ Absent = with_at_same s.power d Absent x is in
      false≢true (sym (ap is_present gone) ∙ subst (λ (b : Bool). IsPresent (step (Sync d b) s) x) failed here)

  pub keeps_unsynced : (done : Bool) → done ≡ false → IsInRange m → d < m.setup.geometry.disks
      → ((x : ℕ) → x < m.setup.geometry.disks → is_present (s.power x) ≡ false → named_out m.out ≡ Some x) → ((x : ℕ) → named_out m.out ≡ Some x → x ≡ d)
      → ((x : ℕ) → named ≡ Some x → named_out m.out ≡ Some x) → HoldsBetweenCalls slots named (meta_after_loss m d) table batch copied_then h lo (step (Sync d done) s)
  keeps_unsynced done failed range low absent alone still =
      let then = keeps_failed slots named m table batch copied h lo s (Sync d done) range low failed absent alone still k in
      keeps_marked slots named (meta_after_loss m d) table batch copied h lo copied_then (step (Sync d done) s) (λ x p here copies_synced. elim (cases_eq x d) [
        | inl is ↦ absurd (not_here x is done failed here)
        | inr apart ↦ then.synced x p here (λ l. sym (cleared.others x apart) ∙ copies_synced l)
      ]) then

-- a disk that does not spin has no loose block
module _ (slot : ℕ → Slot) (few : ℕ) (are : AreSlots few slot) (s : Disks) (agrees : Agrees s slot) where
  idle_dry : (x p : ℕ) (w : Power) → (slot x).power ≡ w → w ≢ Spinning → IsPresent s x → s.loose x p ≡ false
  idle_dry x p Spinning is not here = absurd (not refl)
  idle_dry x p Absent is not here = absurd (false≢true (sym (ap is_present (agrees.power x ∙ is)) ∙ here))
  idle_dry x p Parked is not here = elim (cases_Bool (s.loose x p)) [
    | inr synced ↦ synced
    | inl wet ↦ absurd (false≢true (sym (are.parked x is) ∙ agrees.loose x p wet))
  ]

  pub idle_unmarked : (slots : ℕ) (named : Option ℕ) (m : Meta) (table : List (List Bool)) (batch : Batch) (copied copied_then : List Bool) (h : History) (lo : ℕ) (d : ℕ) → IsCleared copied copied_then d
      → (slot d).power ≢ Spinning → HoldsBetweenCalls slots named m table batch copied h lo s → (x p : ℕ) → IsPresent s x → (x < m.setup.geometry.disks → is_copied copied_then x ≡ false) → s.loose x p ≡ false
  idle_unmarked slots named m table batch copied copied_then h lo d cleared not k x p here copies_synced = elim (cases_eq x d) [
    | inl is ↦ idle_dry x p (slot x).power refl (λ e. not (ap (λ (y : ℕ). (slot y).power) (sym is) ∙ e)) here
    | inr apart ↦ k.synced x p here (λ low. sym (cleared.others x apart) ∙ copies_synced low)
  ]

-- the stripes that are copied are so still
module _ (slots : ℕ) (named : Option ℕ) (m : Meta) (table : List (List Bool)) (copied copied_then : List Bool) (h : History) (lo end : ℕ) (s : Disks) (kf : KeepsFilled slots named m table copied h lo end s) where
  pub filled_unmarked : ((x p : ℕ) → IsPresent s x → (x < m.setup.geometry.disks → is_copied copied_then x ≡ false) → s.loose x p ≡ false) → KeepsFilled slots named m table copied_then h lo end s
  filled_unmarked synced = record {
    keeps = keeps_marked slots named m table [] copied h lo copied_then s synced kf.keeps;
    shift = subst (λ (b : Meta). IsShiftCommitted b m) (sym (marked_base slots named m table [] copied h lo copied_then s synced kf.keeps)) kf.shift;
    filled = kf.filled;
  }

  module _ (d : ℕ) (cleared : IsCleared copied copied_then d) where
    abbrev dry : ℕ → ℕ → Bool
    dry = with_at s.loose d (λ q. false)

    step_is : step (Sync d true) s ≡ record s { loose = dry }
    unfolding step
    step_is = λ i. record { power = self_at s.power d i; size = self_at s.size d i; block = s.block; loose = dry }

    copying : IsCopying (record s { loose = dry }) kf.keeps.base kf.keeps.held
    copying = subst (λ (t : Disks). IsCopying t kf.keeps.base kf.keeps.held) step_is (copying_sync s kf.keeps.base kf.keeps.held d kf.keeps.copies.copying)

    places : (x p : ℕ) → IsPresent s x → (x < m.setup.geometry.disks → is_copied copied_then x ≡ false) → dry x p ≡ false
    places x p here copies_synced =
        ap (λ (t : Disks). t.loose x p) (sym step_is)
        ∙ place_synced slots named m table [] copied copied_then h lo s d cleared kf.keeps x p (subst (λ (t : Disks). IsPresent t x) (sym step_is) here) copies_synced

    borne : IsWitnessBorne named (record s { loose = dry })
    borne = subst (IsWitnessBorne named) step_is (borne_synced named s kf.keeps.borne d true)

    filled_dry : KeepsFilled slots named m table copied_then h lo end (record s { loose = dry })
    filled_dry = record {
      keeps = keeps_loose slots named m table [] copied h lo copied_then s dry kf.keeps copying places borne;
      shift = subst (λ (b : Meta). IsShiftCommitted b m) (sym (loose_base slots named m table [] copied h lo copied_then s dry kf.keeps copying places borne)) kf.shift;
      filled = subst (λ (f : Contents). AreStripesCopied (view_with_out m None f) end) (sym (contents_still slots named m table [] copied h lo s dry)) kf.filled;
    }

    pub filled_synced : (done : Bool) → done ≡ true → KeepsFilled slots named m table copied_then h lo end (step (Sync d done) s)
    filled_synced done is =
        subst (λ (b : Bool). KeepsFilled slots named m table copied_then h lo end (step (Sync d b) s)) (sym is)
        (subst (KeepsFilled slots named m table copied_then h lo end) (sym step_is) filled_dry)

-- where the record is told
module _ {R : Type 0} {g : _} (count : R → ℕ) (told : R → Option Trail) (old : Core R g) (copied_then : List Bool) where
  abbrev was : Meta
  was = old.meta

  abbrev slots_was : ℕ
  slots_was = count (store_rack old.store)

  abbrev name : Option ℕ
  name = named_of old.store

  pub sync_filled : (told_then : Option Trail) (d : ℕ) (done : Bool) → GrowsByCall (told (store_rack old.store)) told_then (Sync d done) → IsCleared old.copied copied_then d → done ≡ true
      → (slots_then : ℕ) (named_then : Option ℕ) → slots_then ≡ slots_was → named_then ≡ name → (h : History) (lo end : ℕ)
      → Ran (told (store_rack old.store)) told_then (CrashTriple (IsCoreHeldSinceCommit count old h lo) (Filled count old h lo end) (KeepsFilled slots_then named_then was old.dirty copied_then h lo end))
  sync_filled told_then d done grows cleared is slots_then named_then es en h lo end t tells =
      let r = grows t tells in
      let s = now r.0 in
      record {
        from = r.0;
        was = r.1;
        calls = Sync d done ∷ [];
        is = r.2;
        holds = record {
          goes = λ kf.
              let next = filled_synced slots_was name was old.dirty old.copied copied_then h lo end s kf d cleared done is in (
                (keeps_held slots_was name was old.dirty [] old.copied h lo s kf.keeps, keeps_held slots_was name was old.dirty [] copied_then h lo (step (Sync d done) s) next.keeps),
                subst (λ (z : ℕ). KeepsFilled z named_then was old.dirty copied_then h lo end (step (Sync d done) s)) (sym es)
                    (subst (λ (z : Option ℕ). KeepsFilled slots_was z was old.dirty copied_then h lo end (step (Sync d done) s)) (sym en) next),
              );
        };
      }

  -- no call is made
  pub filled_marked : ((t : Trail) (x p : ℕ) → told (store_rack old.store) ≡ Some t → IsPresent (now t) x → (x < was.setup.geometry.disks → is_copied copied_then x ≡ false) → (h : History) (lo : ℕ)
      → HoldsBetweenCalls slots_was name was old.dirty [] old.copied h lo (now t) → (now t).loose x p ≡ false) → (h : History) (lo end : ℕ)
      → Ran (told (store_rack old.store)) (told (store_rack old.store)) (CrashTriple (IsCoreHeldSinceCommit count old h lo) (Filled count old h lo end) (KeepsFilled slots_was name was old.dirty copied_then h lo end))
  filled_marked places h lo end =
      stays (IsCoreHeldSinceCommit count old h lo) (Filled count old h lo end) (KeepsFilled slots_was name was old.dirty copied_then h lo end) (told (store_rack old.store))
      (λ s kf. keeps_held slots_was name was old.dirty [] copied_then h lo s kf.keeps)
      (λ t tells kf. filled_unmarked slots_was name was old.dirty old.copied copied_then h lo end (now t) kf (λ x p here synced. places t x p tells here synced h lo kf.keeps))
