-- One call on a disk of the array, done or failed: what it leaves of a core.
use Rattle.std.specs.Prelude.{◌≡◌, ℕ, ◌*◌, ◌<◌, ◌≤◌, ◌⊎◌, Bool, true, false, List, [], ◌∷◌, Option, Some, None, length}
use Rattle.std.proofs.Common.{refl, sym, ◌∙◌, ap, subst, arith, inl, inr}
use Rattle.std.proofs.lemmas.Bool.{cases_Bool, cases_eq, false≢true}
use Rattle.paraid_base.specs.History.{History}
use Rattle.paraid_base.specs.States.{gone_out}
use Rattle.paraid_base.specs.Told.{HasRisen}
use Rattle.paraid_rack.specs.declared.call.Call.{Call}
use Rattle.paraid_rack.specs.Disks.{Disks, IsPresent, is_present, step}
use Rattle.paraid_rack.specs.Slots.{Agrees, Slot, ChangesOneSlot}
use Rattle.paraid_rack.specs.Told.{GrowsByCall, Ran, CrashTriple}
use Rattle.paraid_rack.specs.Trail.{Trail, now}
use Rattle.paraid_rack.proofs.TrailsLemmas.{called}
use Rattle.paraid_record.specs.declared.meta.Meta.{Meta}
use Rattle.paraid_image.specs.Calls.{disk_of, is_done}
use Rattle.paraid_image.specs.Out.{named_out}
use Rattle.paraid_image.specs.Sides.{Batch, is_open, stored_block}
use Rattle.paraid_image.specs.Content.{view_by}
use Rattle.paraid_image.specs.Sound.{ContentOk}
use Rattle.paraid_image.specs.Standing.{Contents, contents}
use Rattle.paraid_image.specs.Mark.{meta_with_lost}
use Rattle.paraid_base.specs.Regions.{map_count}
use Rattle.paraid_dirty.specs.Table.{is_dirty}
use Rattle.paraid_moves.specs.Copying.{IsCopying}
use Rattle.paraid_txn.specs.Losses.{OnlyLosesSlots}
use Rattle.paraid_txn.specs.Stores.{IsSameStore, disks_of, epoch_of, named_of, store_rack}
use Rattle.paraid_core.specs.declared.staged.Core.{Core}
use Rattle.paraid_core.specs.Cores.{IsCoreReady, CanCoreServe, CoreStandsFor}
use Rattle.paraid_core.specs.CoreInvariant.{CanServe, IsHeldWithOneMissing, IsWitnessBorne, AreSlotsReady, HoldsBetweenCalls, is_copied, lost_in}
use Rattle.paraid_core.specs.Steps.{IsNamedOrAbsent, IsStillOut, LeavesCore}
use Rattle.paraid_core.proofs.AfterLemmas.{lost_in_is, marked_setup, ready_after, ready_moved, serve_after}
use Rattle.paraid_core.proofs.MomentLemmas.{beside, failed_holding}
use Rattle.paraid_core.proofs.MomentLemmas.Holding.{intact}
use Rattle.paraid_core.proofs.ReadyLemmas.{IsLostOnly, some_is}
use Rattle.paraid_core.proofs.UnsyncedLemmas.{IsMarkedOrBefore, gone_still, marked_still}

-- a call on one slot that leaves its power and its size
module _ (n : ℕ) (slot then : ℕ → Slot) (d : ℕ) (leaves : Slot) (dirt done : Bool) (touched : ChangesOneSlot slot then d leaves dirt done)
    (power : leaves.power ≡ (slot d).power) (size : leaves.size ≡ (slot d).size) where
  pub done_only : done ≡ true → IsLostOnly n None slot then
  done_only is = record {
    power = λ x l not. elim (cases_eq x d) [
      | inl here ↦ ap (λ (e : ℕ). (then e).power) here ∙ ap (λ (s : Slot). s.power) (touched.done is) ∙ power ∙ ap (λ (e : ℕ). (slot e).power) (sym here)
      | inr apart ↦ ap (λ (s : Slot). s.power) (touched.others x apart)
    ];
    size = λ x l not. elim (cases_eq x d) [
      | inl here ↦ ap (λ (e : ℕ). (then e).size) here ∙ ap (λ (s : Slot). s.size) (touched.done is) ∙ size ∙ ap (λ (e : ℕ). (slot e).size) (sym here)
      | inr apart ↦ ap (λ (s : Slot). s.size) (touched.others x apart)
    ];
    gone = λ x k. let z : None ≡ Some x = k in cc;
  }

  -- a disk that is there has its power and size, and no count has fallen
  pub call_spared : leaves.faults ≡ (slot d).faults → OnlyLosesSlots slot then
  call_spared faults = elim (cases_Bool done) [
    | inl is ↦ record {
      power = λ x here. elim (cases_eq x d) [
        | inl same ↦ ap (λ (e : ℕ). (then e).power) same ∙ ap (λ (s : Slot). s.power) (touched.done is) ∙ power ∙ ap (λ (e : ℕ). (slot e).power) (sym same)
        | inr apart ↦ ap (λ (s : Slot). s.power) (touched.others x apart)
      ];
      size = λ x here. elim (cases_eq x d) [
        | inl same ↦ ap (λ (e : ℕ). (then e).size) same ∙ ap (λ (s : Slot). s.size) (touched.done is) ∙ size ∙ ap (λ (e : ℕ). (slot e).size) (sym same)
        | inr apart ↦ ap (λ (s : Slot). s.size) (touched.others x apart)
      ];
      no_fall = λ x. elim (cases_eq x d) [
        | inl same ↦
            let e : (then x).faults ≡ (slot x).faults = ap (λ (e : ℕ). (then e).faults) same ∙ ap (λ (s : Slot). s.faults) (touched.done is) ∙ faults ∙ ap (λ (e : ℕ). (slot e).faults) (sym same) in
            omega arith
        | inr apart ↦ let e : (then x).faults ≡ (slot x).faults = ap (λ (s : Slot). s.faults) (touched.others x apart) in omega arith
      ];
    }
    | inr failed ↦ record {
      power = λ x here. elim (cases_eq x d) [
        | inl same ↦ absurd (not_here failed x same here)
        | inr apart ↦ ap (λ (s : Slot). s.power) (touched.others x apart)
      ];
      size = λ x here. elim (cases_eq x d) [
        | inl same ↦ absurd (not_here failed x same here)
        | inr apart ↦ ap (λ (s : Slot). s.size) (touched.others x apart)
      ];
      no_fall = λ x. elim (cases_eq x d) [
        | inl same ↦ subst (λ (e : ℕ). (slot e).faults ≤ (then e).faults) (sym same) (touched.later failed)
        | inr apart ↦ let e : (then x).faults ≡ (slot x).faults = ap (λ (s : Slot). s.faults) (touched.others x apart) in omega arith
      ];
    }
  ]
    where
      not_here : done ≡ false → (x : ℕ) → x ≡ d → is_present (then x).power ≡ true → ⊥
      not_here failed x same here = false≢true (sym (ap is_present (ap (λ (e : ℕ). (then e).power) same ∙ touched.absent failed)) ∙ here)

  pub failed_only : done ≡ false → IsLostOnly n (Some d) slot then
  failed_only is = record {
    power = λ x l not. ap (λ (s : Slot). s.power) (touched.others x (λ here. not (ap Some (sym here))));
    size = λ x l not. ap (λ (s : Slot). s.size) (touched.others x (λ here. not (ap Some (sym here))));
    gone = λ x k. ap (λ (e : ℕ). (then e).power) (sym (some_is d x k)) ∙ touched.absent is;
  }

-- no disk comes back where slots are only lost
pub gone_stays : (a b : ℕ → Slot) → OnlyLosesSlots a b → (d : ℕ) → is_present (a d).power ≡ false → is_present (b d).power ≡ false
gone_stays a b spared d gone = elim (cases_Bool (is_present (b d).power)) [
  | inr away ↦ away
  | inl here ↦ absurd (false≢true (sym gone ∙ ap is_present (sym (spared.power d here)) ∙ here))
]

-- over every rack
module _ {R : Type 0} {g : _} (count : R → ℕ) (slot : R → ℕ → Slot) (old new : Core R g) (ready : IsCoreReady count slot old) (still : IsStillOut (named_of old.store) old.meta)
    (slots : count (store_rack new.store) ≡ count (store_rack old.store)) (same : IsSameStore old.store new.store) (table : new.dirty ≡ old.dirty) (batch : new.batch ≡ old.batch) (draft : new.draft ≡ old.draft)
    (lost : Option ℕ) (low : (d : ℕ) → lost ≡ Some d → d < old.meta.setup.geometry.disks) (only : IsLostOnly old.meta.setup.geometry.disks lost (slot (store_rack old.store)) (slot (store_rack new.store)))
    (alone : (d x : ℕ) → lost ≡ Some d → named_out old.meta.out ≡ Some x → x ≡ d) (meta : new.meta ≡ meta_with_lost lost old.meta)
    (spared : OnlyLosesSlots (slot (store_rack old.store)) (slot (store_rack new.store))) (risen : (d : ℕ) → lost ≡ Some d → HasRisen (slot (store_rack old.store) d).faults (slot (store_rack new.store) d).faults)
    (marks : IsMarkedOrBefore (slot (store_rack old.store)) (slot (store_rack new.store)) old.copied new.copied) where
  abbrev m : Meta
  m = old.meta

  abbrev then : ℕ → Slot
  then = slot (store_rack new.store)

  is_lost : lost_in m lost ≡ lost
  is_lost = lost_in_is m lost low

  only_in : IsLostOnly m.setup.geometry.disks (lost_in m lost) (slot (store_rack old.store)) then
  only_in = subst (λ (o : Option ℕ). IsLostOnly m.setup.geometry.disks o (slot (store_rack old.store)) then) (sym is_lost) only

  meta_in : new.meta ≡ meta_with_lost (lost_in m lost) m
  meta_in = meta ∙ ap (λ (o : Option ℕ). meta_with_lost o m) (sym is_lost)

  alone_in : (d x : ℕ) → lost_in m lost ≡ Some d → named_out m.out ≡ Some x → x ≡ d
  alone_in d x is k = alone d x (sym is_lost ∙ is) k

  low_in : (d : ℕ) → lost_in m lost ≡ Some d → d < m.setup.geometry.disks
  low_in d is = low d (sym is_lost ∙ is)

  ready_was : AreSlotsReady (count (store_rack new.store)) then (epoch_of new.store) (disks_of new.store) (named_of new.store) new.meta (length old.dirty) old.batch
  ready_was =
      ready_moved _ _ then _ _ _ _ _ _ (meta_with_lost (lost_in m lost) m) _ _ _ slots same.epoch same.disks same.named meta_in
      (ready_after _ _ _ _ _ _ m _ _ ready lost only_in alone_in (λ d x is k. alone_in d x is (still x k)) low_in)

  ready_now : IsCoreReady count slot new
  ready_now =
      subst (λ (z : Batch). AreSlotsReady (count (store_rack new.store)) then (epoch_of new.store) (disks_of new.store) (named_of new.store) new.meta (length new.dirty) z) (sym batch)
      (subst (λ (z : List (List Bool)). AreSlotsReady (count (store_rack new.store)) then (epoch_of new.store) (disks_of new.store) (named_of new.store) new.meta (length z) old.batch) (sym table) ready_was)

  serves_now : CanCoreServe slot old → CanCoreServe slot new
  serves_now serves =
      subst (λ (z : Option ℕ). CanServe then z new.meta) (sym same.named)
      (subst (λ (z : Meta). CanServe then (named_of old.store) z) (sym meta_in)
      (serve_after _ _ _ _ _ _ m _ _ ready lost only_in alone_in (λ d x is k. alone_in d x is (still x k)) low_in serves))

  still_by : (o : Option ℕ) → lost ≡ o → IsStillOut (named_of old.store) (meta_with_lost o m)
  still_by None is = still
  still_by (Some d) is = λ x k. ap Some (sym (alone d x is (still x k)))

  risen_by : (o : Option ℕ) → lost ≡ o → (d : ℕ) → named_out (meta_with_lost o m).out ≡ Some d
      → (named_out m.out ≡ Some d) ⊎ HasRisen (slot (store_rack old.store) d).faults (slot (store_rack new.store) d).faults
  risen_by None is d k = inl k
  risen_by (Some e) is d k = inr (risen d (is ∙ k))

  absent_by : (o : Option ℕ) → lost ≡ o → IsNamedOrAbsent slot old → (d : ℕ) → named_out (meta_with_lost o m).out ≡ Some d → (named_of new.store ≡ Some d) ⊎ (is_present (then d).power ≡ false)
  absent_by None is was d k = elim (was d k) [ inl names ↦ inl (same.named ∙ names) | inr gone ↦ inr (gone_stays (slot (store_rack old.store)) then spared d gone) ]
  absent_by (Some e) is was d k = inr (ap is_present (only.gone d (is ∙ k)))

  pub call_leaves : LeavesCore count slot old new
  call_leaves = record {
    slots = slots;
    same = same;
    meta = record { lost = lost; is = meta; alone = alone };
    table = table;
    batch = batch;
    draft = draft;
    ready = ready_now;
    serves = serves_now;
    absent = λ was d is. absent_by lost refl was d (ap (λ (z : Meta). named_out z.out) (sym meta) ∙ is);
    unsynced = λ was d l stays here wet. marked_still (slot (store_rack old.store)) then old.copied new.copied spared.power marks d here wet
        (was d (subst (λ (z : _). d < z.geometry.disks) (ap (λ (z : Meta). z.setup) meta ∙ marked_setup lost m) l) (λ is. stays (ap (λ (z : Meta). gone_out z.out) meta ∙ gone_still m lost alone d is)));
    still = subst (λ (z : Option ℕ). IsStillOut z new.meta) (sym same.named) (subst (IsStillOut (named_of old.store)) (sym meta) (still_by lost refl));
    spared = spared;
    risen = λ d is. risen_by lost refl d (ap (λ (z : Meta). named_out z.out) (sym meta) ∙ is);
  }

-- what the disks hold
module _ (slots : ℕ) (named : Option ℕ) (m : Meta) (table : List (List Bool)) (batch : Batch) (copied : List Bool) (h : History) (lo : ℕ) where
  pub keeps_held : (s : Disks) → HoldsBetweenCalls slots named m table batch copied h lo s → IsHeldWithOneMissing slots m.setup.geometry.disks named h lo s
  keeps_held s k =
      subst (λ (z : _). IsHeldWithOneMissing slots z.geometry.disks named h lo s) (sym k.next.setup)
      (beside slots k.base h lo named (λ d is. sym k.named_by ∙ is) s (intact k.held k.copies))

  pub failed_held : (s : Disks) (c : Call) → is_done c ≡ false → disk_of c < m.setup.geometry.disks → HoldsBetweenCalls slots named m table batch copied h lo s
      → IsHeldWithOneMissing slots m.setup.geometry.disks named h lo (step c s)
  failed_held s c failed low k =
      subst (λ (z : _). IsHeldWithOneMissing slots z.geometry.disks named h lo (step c s)) (sym k.next.setup)
      (beside slots k.base h lo named (λ d is. sym k.named_by ∙ is) (step c s)
      (failed_holding slots k.base h lo s c failed (subst (λ (z : _). disk_of c < z.geometry.disks) k.next.setup low) k.held k.copies))

  -- no copy is unsynced where none was, or where nothing is loose
  pub keeps_marked : (copied_then : List Bool) (s : Disks) → ((x p : ℕ) → IsPresent s x → (x < m.setup.geometry.disks → is_copied copied_then x ≡ false) → s.loose x p ≡ false)
      → HoldsBetweenCalls slots named m table batch copied h lo s → HoldsBetweenCalls slots named m table batch copied_then h lo s
  keeps_marked copied_then s synced k = record {
    base = k.base;
    held = k.held;
    copies = k.copies;
    synced = synced;
    named_by = k.named_by;
    borne = k.borne;
    epoch = k.epoch;
    next = k.next;
    writes = k.writes;
    brought = k.brought;
    staged = k.staged;
    dirty = k.dirty;
  }

  -- the last commit is the same
  pub marked_base : (copied_then : List Bool) (s : Disks) (synced : (x p : ℕ) → IsPresent s x → (x < m.setup.geometry.disks → is_copied copied_then x ≡ false) → s.loose x p ≡ false)
      (k : HoldsBetweenCalls slots named m table batch copied h lo s) → (keeps_marked copied_then s synced k).base ≡ k.base
  unfolding keeps_marked
  marked_base copied_then s synced k = refl

  stored_still : (s : Disks) (loose : ℕ → ℕ → Bool) (x p : ℕ) → stored_block (record s { loose = loose }) x p ≡ stored_block s x p
  unfolding stored_block
  stored_still s loose x p = refl

  pub contents_still : (s : Disks) (loose : ℕ → ℕ → Bool) → contents (record s { loose = loose }) batch ≡ contents s batch
  unfolding contents
  contents_still s loose = refl

  -- no block, power or size changes
  pub keeps_loose : (copied_then : List Bool) (s : Disks) (loose : ℕ → ℕ → Bool) → (k : HoldsBetweenCalls slots named m table batch copied h lo s) → IsCopying (record s { loose = loose }) k.base k.held
      → ((x p : ℕ) → IsPresent s x → (x < m.setup.geometry.disks → is_copied copied_then x ≡ false) → loose x p ≡ false) → IsWitnessBorne named (record s { loose = loose })
      → HoldsBetweenCalls slots named m table batch copied_then h lo (record s { loose = loose })
  keeps_loose copied_then s loose k copying synced borne = record {
    base = k.base;
    held = k.held;
    copies = record { copying = copying; low = k.copies.low; high = k.copies.high; content = k.copies.content };
    synced = synced;
    named_by = k.named_by;
    borne = borne;
    epoch = k.epoch;
    next = record {
      epoch = k.next.epoch;
      setup = k.next.setup;
      out = k.next.out;
      comes_in = k.next.comes_in;
      fresh_closed = λ x u fresh l. ap is_open (stored_still s loose x 0) ∙ k.next.fresh_closed x u (record { is = fresh.is; present = fresh.present }) l;
    };
    writes = k.writes;
    brought = k.brought;
    staged = staged_still;
    dirty = dirty_still;
  }
    where
      same_contents : contents (record s { loose = loose }) batch ≡ contents s batch
      same_contents = contents_still s loose

      staged_still : ContentOk slots s.power s.size (view_by m s.power (contents (record s { loose = loose }) batch)) h (length h)
      staged_still = subst (λ (f : Contents). ContentOk slots s.power s.size (view_by m s.power f) h (length h)) (sym same_contents) k.staged

      dirty_still : (r d : ℕ) → r < 512 * map_count m.setup.geometry → is_dirty table r d ≡ (view_by m s.power (contents (record s { loose = loose }) batch)).dirty r d
      dirty_still r d l = k.dirty r d l ∙ ap (λ (f : Contents). (view_by m s.power f).dirty r d) (sym same_contents)

  pub loose_base : (copied_then : List Bool) (s : Disks) (loose : ℕ → ℕ → Bool) (k : HoldsBetweenCalls slots named m table batch copied h lo s) (copying : IsCopying (record s { loose = loose }) k.base k.held)
      (synced : (x p : ℕ) → IsPresent s x → (x < m.setup.geometry.disks → is_copied copied_then x ≡ false) → loose x p ≡ false) (borne : IsWitnessBorne named (record s { loose = loose }))
      → (keeps_loose copied_then s loose k copying synced borne).base ≡ k.base
  unfolding keeps_loose
  loose_base copied_then s loose k copying synced borne = refl

  pub keeps_still : (copied_then : List Bool) (s t : Disks) → t.power ≡ s.power → t.size ≡ s.size → t.block ≡ s.block → (k : HoldsBetweenCalls slots named m table batch copied h lo s) → IsCopying t k.base k.held
      → ((x p : ℕ) → IsPresent t x → (x < m.setup.geometry.disks → is_copied copied_then x ≡ false) → t.loose x p ≡ false) → IsWitnessBorne named t
      → HoldsBetweenCalls slots named m table batch copied_then h lo t
  keeps_still copied_then s t power size block k copying synced borne =
      subst (HoldsBetweenCalls slots named m table batch copied_then h lo) (sym same)
      (keeps_loose copied_then s t.loose k (subst (λ (u : Disks). IsCopying u k.base k.held) same copying)
      (λ x p here. synced x p (subst (λ (u : Disks). IsPresent u x) (sym same) here)) (subst (IsWitnessBorne named) same borne))
    where
      same : t ≡ record s { loose = t.loose }
      same = λ i. record { power = power i; size = size i; block = block i; loose = t.loose }

-- where the record is told
module _ {R : Type 0} {g : _} (count : R → ℕ) (slot : R → ℕ → Slot) (told : R → Option Trail) (old : Core R g) (told_then : Option Trail) (c : Call) (grows : GrowsByCall (told (store_rack old.store)) told_then c) where
  abbrev was : Meta
  was = old.meta

  abbrev slots_was : ℕ
  slots_was = count (store_rack old.store)

  abbrev named : Option ℕ
  named = named_of old.store

  abbrev P : History → ℕ → Disks → Type 0
  P h lo = IsHeldWithOneMissing slots_was was.setup.geometry.disks named h lo

  -- whatever is answered: at its end each stop leaves what it left before
  pub call_held : disk_of c < was.setup.geometry.disks
      → (is_done c ≡ true → (h : History) (lo : ℕ) (s : Disks) → HoldsBetweenCalls slots_was named was old.dirty old.batch old.copied h lo s → P h lo (step c s))
      → (h : History) (lo : ℕ) → Ran (told (store_rack old.store)) told_then (CrashTriple (P h lo) (CoreStandsFor count old h lo) (P h lo))
  call_held low go h lo =
      called (P h lo) (CoreStandsFor count old h lo) (P h lo) _ _ c grows
      (keeps_held slots_was named was old.dirty old.batch old.copied h lo) (λ s p. p) (λ s k. elim (cases_Bool (is_done c)) [
        | inl done ↦ go done h lo s k
        | inr failed ↦ failed_held slots_was named was old.dirty old.batch old.copied h lo s c failed low k
      ])

  module _ (agrees : (t : Trail) → told (store_rack old.store) ≡ Some t → Agrees (now t) (slot (store_rack old.store))) (slots_then : ℕ) (named_then : Option ℕ) (m_then : Meta) (table_then : List (List Bool))
      (batch_then : Batch) (copied_then : List Bool) (slots_same : slots_then ≡ slots_was) (named_same : named_then ≡ named) (setup : m_then.setup ≡ was.setup) where
    pub call_stands : ((h : History) (lo : ℕ) (s : Disks) → Agrees s (slot (store_rack old.store)) → HoldsBetweenCalls slots_was named was old.dirty old.batch old.copied h lo s
        → HoldsBetweenCalls slots_was named m_then table_then batch_then copied_then h lo (step c s))
        → (h : History) (lo : ℕ) → Ran (told (store_rack old.store)) told_then (CrashTriple (P h lo) (CoreStandsFor count old h lo) (HoldsBetweenCalls slots_then named_then m_then table_then batch_then copied_then h lo))
    call_stands go h lo t tells =
        let r = grows t tells in
        record {
          from = r.0;
          was = r.1;
          calls = c ∷ [];
          is = r.2;
          holds = record {
            goes = λ k.
                let then = go h lo (now r.0) (agrees r.0 r.1) k in
                ((keeps_held slots_was named was old.dirty old.batch old.copied h lo (now r.0) k, held_now (step c (now r.0)) then), forth (step c (now r.0)) then);
          };
        }
      where
        forth : (s : Disks) → HoldsBetweenCalls slots_was named m_then table_then batch_then copied_then h lo s → HoldsBetweenCalls slots_then named_then m_then table_then batch_then copied_then h lo s
        forth s k =
            subst (λ (z : Option ℕ). HoldsBetweenCalls slots_then z m_then table_then batch_then copied_then h lo s) (sym named_same)
            (subst (λ (z : ℕ). HoldsBetweenCalls z named m_then table_then batch_then copied_then h lo s) (sym slots_same) k)

        held_now : (s : Disks) → HoldsBetweenCalls slots_was named m_then table_then batch_then copied_then h lo s → P h lo s
        held_now s k = subst (λ (z : _). IsHeldWithOneMissing slots_was z.geometry.disks named h lo s) setup (keeps_held slots_was named m_then table_then batch_then copied_then h lo s k)
