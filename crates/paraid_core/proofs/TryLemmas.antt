-- A plan over a core that was made, or that was dropped.
use Rattle.std.specs.Prelude.{◌≡◌, ◌≢◌, ℕ, ◌<◌, Bool, false, List, length, Option, Some, None, Result, Ok, Err, OnOk, is_err}
use Rattle.std.proofs.Common.{[], ◌∷◌, refl, sym, ◌∙◌, ap, subst, inl}
use Rattle.std.proofs.lemmas.Bool.{false≢true}
use Rattle.paraid_base.specs.History.{History}
use Rattle.paraid_dirty.specs.Table.{is_dirty}
use Rattle.paraid_image.specs.Out.{named_out, or_else, out_disk}
use Rattle.paraid_image.specs.Sides.{Batch}
use Rattle.paraid_image.specs.Mark.{meta_with_lost}
use Rattle.paraid_rack.specs.declared.call.Power.TheVariants.{Absent}
use Rattle.paraid_rack.specs.Disks.{Disks, step}
use Rattle.paraid_rack.specs.Slots.{Agrees, Slot}
use Rattle.paraid_rack.specs.Told.{Ran, CrashTriple, Through}
use Rattle.paraid_rack.specs.declared.call.Call.{Call}
use Rattle.paraid_rack.specs.Trail.{Trail, now}
use Rattle.paraid_rack.proofs.TrailsLemmas.{weaker}
use Rattle.paraid_record.specs.declared.meta.Meta.{Meta}
use Rattle.paraid_txn.specs.Losses.{AreTwoDown}
use Rattle.paraid_txn.specs.Stores.{disks_of, epoch_of, named_of, store_rack}
use Rattle.paraid_view.specs.Reads.{AreLeft}
use Rattle.paraid_base.specs.declared.fault.Two.{Two}
use Rattle.paraid_core.specs.declared.staged.Core.{Core}
use Rattle.paraid_core.specs.Cores.{IsCoreReady, CanCoreServe}
use Rattle.paraid_core.specs.Plans.{LeadsTo, without_draft}
use Rattle.paraid_core.specs.CoreInvariant.{CanServe, IsHeldWithOneMissing, AreSlotsReady, HoldsBetweenCalls, lost_in}
use Rattle.paraid_core.proofs.AfterLemmas.{down_named, lost_in_is, lost_in_low, out_is_named, ready_after, ready_moved, serve_after}
use Rattle.paraid_core.proofs.ReadsLemmas.{knows_named, reads_moments, reads_stand}
use Rattle.paraid_core.proofs.ReadyLemmas.{IsLostOnly, left_lost_only}

pub not_err : {A E : Type 0} (r : Result A E) (P : Type 0) → is_err r ≡ false → OnOk r P → P
not_err (Ok a) P is p = p
not_err (Err e) P is p = absurd (false≢true (sym is))

pub through_held : (P Q : Disks → Type 0) → ((s : Disks) → P s → Q s) → (s : Disks) (cs : List Call) → Through P s cs → Through Q s cs
through_held P Q to s [] p = to s p
through_held P Q to s (c ∷ cs) p = (to s p.0, through_held P Q to (step c s) cs p.1)

-- what holds since the last commit holds beside all that is out
pub since_held : (slots n : ℕ) (named out : Option ℕ) (h : History) (lo : ℕ) (A B : Disks → Type 0) (old new : Option Trail)
    → Ran old new (CrashTriple (IsHeldWithOneMissing slots n named h lo) A B) → Ran old new (CrashTriple (IsHeldWithOneMissing slots n (or_else named out) h lo) A B)
since_held slots n named out h lo A B old new ran t tells =
    let r = ran t tells in
    record {
      from = r.from;
      was = r.was;
      calls = r.calls;
      is = r.is;
      holds = record { goes = λ a. let b = r.holds.goes a in (through_held (IsHeldWithOneMissing slots n named h lo) (IsHeldWithOneMissing slots n (or_else named out) h lo) beside (now r.from) r.calls b.0, b.1) };
    }
  where
    beside : (s : Disks) → IsHeldWithOneMissing slots n named h lo s → IsHeldWithOneMissing slots n (or_else named out) h lo s
    beside s p = record { held = λ down absent known. p.held down absent (λ d is. known d (knows_named named out d is)) }

pub ended_held : (slots n : ℕ) (named out : Option ℕ) (h : History) (lo : ℕ) (A : Disks → Type 0) (old new : Option Trail)
    → Ran old new (CrashTriple (IsHeldWithOneMissing slots n named h lo) A (IsHeldWithOneMissing slots n named h lo)) → Ran old new (CrashTriple (IsHeldWithOneMissing slots n (or_else named out) h lo) A (IsHeldWithOneMissing slots n (or_else named out) h lo))
ended_held slots n named out h lo A old new ran =
    weaker (IsHeldWithOneMissing slots n (or_else named out) h lo) A A (IsHeldWithOneMissing slots n named h lo) (IsHeldWithOneMissing slots n (or_else named out) h lo) old new (λ s a. a)
    (λ s p. record { held = λ down absent known. p.held down absent (λ d is. known d (knows_named named out d is)) })
    (since_held slots n named out h lo A (IsHeldWithOneMissing slots n named h lo) old new ran)

-- the bits of the table alone tell
keeps_bits : (slots : ℕ) (named : Option ℕ) (m m_then : Meta) (table table_then : List (List Bool)) (batch batch_then : Batch) (copied copied_then : List Bool) (h : History) (lo : ℕ) (s : Disks)
    → m_then ≡ m → is_dirty table_then ≡ is_dirty table → batch_then ≡ batch → copied_then ≡ copied → HoldsBetweenCalls slots named m table batch copied h lo s
    → HoldsBetweenCalls slots named m_then table_then batch_then copied_then h lo s
keeps_bits slots named m m_then table table_then batch batch_then copied copied_then h lo s em bits eb ec k =
    subst (λ (z : List Bool). HoldsBetweenCalls slots named m_then table_then batch_then z h lo s) (sym ec)
    (subst (λ (z : Batch). HoldsBetweenCalls slots named m_then table_then z copied h lo s) (sym eb)
    (subst (λ (z : Meta). HoldsBetweenCalls slots named z table_then batch copied h lo s) (sym em)
    (record {
      base = k.base;
      held = k.held;
      copies = k.copies;
      synced = k.synced;
      named_by = k.named_by;
      borne = k.borne;
      epoch = k.epoch;
      next = k.next;
      writes = k.writes;
      brought = k.brought;
      staged = k.staged;
      dirty = λ r d l. ap (λ (f : ℕ → ℕ → Bool). f r d) bits ∙ k.dirty r d l;
    })))

module _ {R : Type 0} {g : _} (count : R → ℕ) (slot : R → ℕ → Slot) (told : R → Option Trail) (old pl : Core R g) (led : LeadsTo count slot told (without_draft old) pl) (ready : IsCoreReady count slot old) where
  abbrev m : Meta
  m = old.meta

  abbrev lost : Option ℕ
  lost = pl.failed

  abbrev was : ℕ → Slot
  was = slot (store_rack old.store)

  abbrev then : ℕ → Slot
  then = slot (store_rack pl.store)

  abbrev named : Option ℕ
  named = named_of old.store

  abbrev slots : ℕ
  slots = count (store_rack old.store)

  pub left : AreLeft lost was then
  left = led.left refl

  low : (d : ℕ) → lost ≡ Some d → d < m.setup.geometry.disks
  low d is = subst (λ (z : ℕ). d < z) (sym ready.array_is) (led.below d refl is).0

  same : lost_in m lost ≡ lost
  same = lost_in_is m lost low

  only : IsLostOnly m.setup.geometry.disks (lost_in m lost) was then
  only = subst (λ (o : Option ℕ). IsLostOnly m.setup.geometry.disks o was then) (sym same) (left_lost_only m.setup.geometry.disks lost was then left)

  pub try_moments : (h : History) (lo : ℕ)
      → Ran (told (store_rack old.store)) (told (store_rack pl.store)) (CrashTriple (IsHeldWithOneMissing slots m.setup.geometry.disks named h lo) (HoldsBetweenCalls slots named m old.dirty old.batch old.copied h lo)
      (IsHeldWithOneMissing slots m.setup.geometry.disks named h lo))
  try_moments h lo = reads_moments slots named m old.dirty old.batch old.copied h lo named (λ d is. is) (disks_of old.store) _ _ (sym ready.array_is) led.calls

  -- the second disk that failed, and the one that was out
  pub try_two : (two : Two) → (lost ≡ Some two.second) × (named_out pl.meta.out ≡ Some two.first) × (two.first ≢ two.second) → AreTwoDown (or_else named (named_out m.out)) was then two
  try_two two is = record {
    first = inl (down_named named m ready.one two.first (ap (λ (z : Meta). named_out z.out) (sym led.meta) ∙ is.1));
    apart = is.2;
    second = (left.failed two.second is.0).risen;
  }

  module _ (serves : CanCoreServe slot old) (free : (d x : ℕ) → lost ≡ Some d → named_out m.out ≡ Some x → ⊥)
      (agrees_was : (t : Trail) → told (store_rack old.store) ≡ Some t → Agrees (now t) was) (agrees : (t : Trail) → told (store_rack pl.store) ≡ Some t → Agrees (now t) then)
      (empty : (d : ℕ) → (then d).power ≡ Absent → (then d).size ≡ 0) where
    none_out : (d x : ℕ) → lost_in m lost ≡ Some d → named_out m.out ≡ Some x → x ≡ d
    none_out d x is k = absurd (free d x (sym same ∙ is) k)

    abbrev m_lost : Meta
    m_lost = meta_with_lost (lost_in m lost) m

    pub ready_lost_then : AreSlotsReady (count (store_rack pl.store)) then (epoch_of pl.store) (disks_of pl.store) (named_of pl.store) m_lost (length old.dirty) old.batch
    ready_lost_then =
        ready_moved _ _ then _ _ _ _ _ _ m_lost _ _ _ led.slots led.same.epoch led.same.disks led.same.named refl
        (ready_after _ _ _ _ _ _ m _ _ ready lost only none_out (λ d x is k. none_out d x is (serves.stays x k)) (λ d is. lost_in_low m lost d is))

    pub serves_then : CanServe then (named_of pl.store) m_lost
    serves_then =
        subst (λ (z : Option ℕ). CanServe then z m_lost) (sym led.same.named)
        (serve_after _ _ _ _ _ _ m _ _ ready lost only none_out (λ d x is k. none_out d x is (serves.stays x k)) (λ d is. lost_in_low m lost d is) serves)

    none_absent : (d : ℕ) → lost ≡ Some d → out_disk (λ x. (was x).power) m ≡ None
    none_absent d is = by (out_disk (λ x. (was x).power) m) refl
      where
        by : (o : Option ℕ) → out_disk (λ x. (was x).power) m ≡ o → out_disk (λ x. (was x).power) m ≡ None
        by None e = e
        by (Some x) e = absurd (free d x is (out_is_named (λ x. (was x).power) m ready.absent x e))

    pub stands_lost : (h : History) (lo : ℕ)
        → Ran (told (store_rack old.store)) (told (store_rack pl.store)) (CrashTriple (IsHeldWithOneMissing slots m.setup.geometry.disks named h lo) (HoldsBetweenCalls slots named m old.dirty old.batch old.copied h lo)
        (HoldsBetweenCalls (count (store_rack pl.store)) (named_of pl.store) m_lost old.dirty old.batch old.copied h lo))
    stands_lost h lo =
        reads_stand slots named m old.dirty old.batch old.copied h lo named (λ d is. is) (disks_of old.store) _ _ was then lost ready.in_range (sym ready.array_is) agrees_was agrees left empty low none_absent serves.stays
        _ _ _ led.slots led.same.named refl led.calls

    -- no disk has failed
    module _ (none : lost ≡ None) where
      kept_meta : pl.meta ≡ m_lost
      kept_meta = led.meta ∙ sym (ap (λ (o : Option ℕ). meta_with_lost (lost_in m o) m) none)

      pub kept_ready : AreSlotsReady (count (store_rack pl.store)) then (epoch_of pl.store) (disks_of pl.store) (named_of pl.store) pl.meta (length pl.dirty) pl.batch
      kept_ready =
          subst (λ (z : Batch). AreSlotsReady (count (store_rack pl.store)) then (epoch_of pl.store) (disks_of pl.store) (named_of pl.store) pl.meta (length pl.dirty) z) (sym led.batch)
          (subst (λ (z : ℕ). AreSlotsReady (count (store_rack pl.store)) then (epoch_of pl.store) (disks_of pl.store) (named_of pl.store) pl.meta z old.batch) (sym led.rows)
          (subst (λ (z : Meta). AreSlotsReady (count (store_rack pl.store)) then (epoch_of pl.store) (disks_of pl.store) (named_of pl.store) z (length old.dirty) old.batch) (sym kept_meta) ready_lost_then))

      pub kept_serves : CanServe then (named_of pl.store) pl.meta
      kept_serves = subst (CanServe then (named_of pl.store)) (sym kept_meta) serves_then

      pub kept_stands : (h : History) (lo : ℕ)
          → Ran (told (store_rack old.store)) (told (store_rack pl.store)) (CrashTriple (IsHeldWithOneMissing slots m.setup.geometry.disks named h lo) (HoldsBetweenCalls slots named m old.dirty old.batch old.copied h lo)
          (HoldsBetweenCalls (count (store_rack pl.store)) (named_of pl.store) m old.dirty old.batch old.copied h lo))
      kept_stands h lo =
          subst (λ (z : Meta). Ran (told (store_rack old.store)) (told (store_rack pl.store)) (CrashTriple (IsHeldWithOneMissing slots m.setup.geometry.disks named h lo) (HoldsBetweenCalls slots named m old.dirty old.batch old.copied h lo)
          (HoldsBetweenCalls (count (store_rack pl.store)) (named_of pl.store) z old.dirty old.batch old.copied h lo))) (ap (λ (o : Option ℕ). meta_with_lost (lost_in m o) m) none) (stands_lost h lo)

    -- the plan is dropped
    module _ (m_then : Meta) (table_then : List (List Bool)) (em : m_then ≡ meta_with_lost (lost_in pl.meta lost) pl.meta) (rows : length table_then ≡ length pl.dirty) (bits : is_dirty table_then ≡ is_dirty old.dirty) where
      meta_is : m_then ≡ m_lost
      meta_is = em ∙ ap (λ (z : Meta). meta_with_lost (lost_in z lost) z) led.meta

      pub dropped_ready : AreSlotsReady (count (store_rack pl.store)) then (epoch_of pl.store) (disks_of pl.store) (named_of pl.store) m_then (length table_then) pl.batch
      dropped_ready =
          subst (λ (z : Batch). AreSlotsReady (count (store_rack pl.store)) then (epoch_of pl.store) (disks_of pl.store) (named_of pl.store) m_then (length table_then) z) (sym led.batch)
          (subst (λ (z : ℕ). AreSlotsReady (count (store_rack pl.store)) then (epoch_of pl.store) (disks_of pl.store) (named_of pl.store) m_then z old.batch) (sym (rows ∙ led.rows))
          (subst (λ (z : Meta). AreSlotsReady (count (store_rack pl.store)) then (epoch_of pl.store) (disks_of pl.store) (named_of pl.store) z (length old.dirty) old.batch) (sym meta_is) ready_lost_then))

      pub dropped_serves : CanServe then (named_of pl.store) m_then
      dropped_serves = subst (CanServe then (named_of pl.store)) (sym meta_is) serves_then

      pub dropped_stands : (h : History) (lo : ℕ)
          → Ran (told (store_rack old.store)) (told (store_rack pl.store)) (CrashTriple (IsHeldWithOneMissing slots m.setup.geometry.disks named h lo) (HoldsBetweenCalls slots named m old.dirty old.batch old.copied h lo)
          (HoldsBetweenCalls (count (store_rack pl.store)) (named_of pl.store) m_then table_then pl.batch pl.copied h lo))
      dropped_stands h lo =
          weaker _ _ _ _ _ _ _ (λ s k. k) (λ s k. keeps_bits _ _ m_lost m_then old.dirty table_then old.batch pl.batch old.copied pl.copied h lo s meta_is bits led.batch led.copied k) (stands_lost h lo)
