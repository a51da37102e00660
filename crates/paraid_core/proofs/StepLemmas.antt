-- One call of a core after the other.
use Rattle.paraid_image.specs.Mark.{meta_after_loss, meta_with_lost}
use Rattle.std.specs.Prelude.{◌≡◌, ℕ, ◌<◌, ◌⊎◌, Bool, true, false, List, [], Option, Some, None}
use Rattle.std.proofs.Common.{refl, sym, ◌∙◌, ap, subst, arith, inl, inr}
use Rattle.std.proofs.lemmas.Bool.{cases_Bool, false≢true}
use Rattle.paraid_base.specs.declared.fault.Two.{Two}
use Rattle.paraid_base.specs.declared.state.Out.TheVariants.{Gone, No}
use Rattle.paraid_base.specs.declared.state.Phase.{Phase}
use Rattle.paraid_base.specs.declared.state.Phase.TheVariants.{Steady, Down, Up}
use Rattle.paraid_base.specs.History.{History}
use Rattle.paraid_base.specs.Told.{HasRisen}
use Rattle.paraid_base.proofs.ToldLemmas.{HasRisen-later, HasRisen-sooner}
use Rattle.paraid_rack.specs.Disks.{Disks, IsPresent, is_present}
use Rattle.paraid_rack.specs.Slots.{Slot}
use Rattle.paraid_rack.specs.Told.{Ran, CrashTriple}
use Rattle.paraid_rack.specs.Trail.{Trail, now}
use Rattle.paraid_rack.proofs.TrailsLemmas.{stays, then}
use Rattle.paraid_record.specs.declared.meta.Meta.{Meta}
use Rattle.paraid_image.specs.Out.{named_out, or_else}
use Rattle.paraid_base.specs.States.{phase_beside}
use Rattle.paraid_txn.specs.Losses.{StaySynced, IsSyncedAt, OnlyLosesSlots, AreTwoDown}
use Rattle.paraid_txn.specs.Stores.{named_of, store_rack}
use Rattle.paraid_view.proofs.TwoLemmas.{spared_then}
use Rattle.paraid_core.specs.declared.staged.Core.{Core}
use Rattle.paraid_core.specs.Cores.{IsCoreHeldSinceCommit, IsCoreReady, CoreStandsFor}
use Rattle.paraid_core.specs.CoreInvariant.{IsHeldWithOneMissing, HoldsBetweenCalls, is_copied}
use Rattle.paraid_core.specs.Fills.{Filled, StaysFilled}
use Rattle.paraid_core.specs.Steps.{IsHeldStill, IsMarkedFrom, IsStillOut, LeavesCore, StandsStill}
use Rattle.paraid_core.proofs.AfterLemmas.{marked_setup}
use Rattle.paraid_core.proofs.CallLemmas.{keeps_held, keeps_marked}
use Rattle.paraid_core.proofs.UnsyncedLemmas.{IsMarkedOrBefore, marked_still}
use Rattle.paraid_core.proofs.ReadsLemmas.{through_last}

pub dry_both : (a b c : ℕ → Slot) → StaySynced a b → StaySynced b c → OnlyLosesSlots b c → StaySynced a c
dry_both a b c first second spared = λ d here wet. elim (second d here wet) [
  | inl was ↦ first d (ap is_present (sym (spared.power d here)) ∙ here) was
  | inr never ↦ absurd never
]

pub still_synced : (b c : ℕ → Slot) (d : ℕ) → IsSyncedAt b d → StaySynced b c → OnlyLosesSlots b c → IsSyncedAt c d
still_synced b c d was synced spared here = elim (cases_Bool (c d).unsynced) [
  | inr not ↦ not
  | inl wet ↦ elim (synced d here wet) [
    | inl before ↦ absurd (false≢true (sym (was (ap is_present (sym (spared.power d here)) ∙ here)) ∙ before))
    | inr never ↦ absurd never
  ]
]

lost_twice : (p : Phase) → phase_beside true (phase_beside true p) ≡ phase_beside true p
lost_twice Steady = refl
lost_twice (Down to) = refl
lost_twice (Up to) = refl

-- marks of the same disk are one mark
marked_then : (a b c : Meta) → IsMarkedFrom a b → IsMarkedFrom b c → IsMarkedFrom a c
marked_then a b c first second = by first.lost second.lost refl refl
  where
    by : (p q : Option ℕ) → first.lost ≡ p → second.lost ≡ q → IsMarkedFrom a c
    by None q ep eq = record {
      lost = second.lost;
      is = second.is ∙ ap (meta_with_lost second.lost) (first.is ∙ ap (λ (o : Option ℕ). meta_with_lost o a) ep);
      alone = λ d x is k. second.alone d x is (ap (λ (z : Meta). named_out z.out) (first.is ∙ ap (λ (o : Option ℕ). meta_with_lost o a) ep) ∙ k);
    }
    by (Some d) None ep eq = record {
      lost = first.lost;
      is = second.is ∙ ap (λ (o : Option ℕ). meta_with_lost o b) eq ∙ first.is;
      alone = first.alone;
    }
    by (Some d) (Some e) ep eq =
        let mid : b ≡ meta_after_loss a d = first.is ∙ ap (λ (o : Option ℕ). meta_with_lost o a) ep in
        let same : d ≡ e = second.alone e d eq (ap (λ (z : Meta). named_out z.out) mid) in
        record {
          lost = first.lost;
          is = second.is ∙ ap (λ (o : Option ℕ). meta_with_lost o b) eq ∙ ap (λ (z : Meta). meta_after_loss z e) mid
              ∙ ap (λ (p : Phase). record a { out = Gone e; phase = p; fill = 0 }) (lost_twice a.phase) ∙ ap (λ (x : ℕ). meta_after_loss a x) (sym same) ∙ sym (ap (λ (o : Option ℕ). meta_with_lost o a) ep);
          alone = first.alone;
        }

pub marked_from_setup : (a b : Meta) → IsMarkedFrom a b → b.setup ≡ a.setup
marked_from_setup a b m = ap (λ (z : Meta). z.setup) m.is ∙ marked_setup m.lost a

-- where no disk is out, none was lost
pub unmarked : (a b : Meta) → IsMarkedFrom a b → b.out ≡ No → b ≡ a
unmarked a b marked whole = by marked.lost refl
  where
    by : (o : Option ℕ) → marked.lost ≡ o → b ≡ a
    by None e = marked.is ∙ ap (λ (o : Option ℕ). meta_with_lost o a) e
    by (Some d) e = let z : Gone d ≡ No = sym (ap (λ (m : Meta). m.out) (marked.is ∙ ap (λ (o : Option ℕ). meta_with_lost o a) e)) ∙ whole in absurd cc

module _ {R : Type 0} {g : _} (count : R → ℕ) (slot : R → ℕ → Slot) (told : R → Option Trail) where
  pub leaves_none : (a : Core R g) → IsCoreReady count slot a → IsStillOut (named_of a.store) a.meta → LeavesCore count slot a a
  leaves_none a ready still = record {
    slots = refl;
    same = record { disks = refl; epoch = refl; named = refl };
    meta = record { lost = None; is = refl; alone = λ d x is. let z : None ≡ Some d = is in cc };
    table = refl;
    batch = refl;
    draft = refl;
    ready = ready;
    serves = λ s. s;
    absent = λ s. s;
    unsynced = λ s. s;
    still = still;
    spared = record { power = λ d here. refl; size = λ d here. refl; no_fall = λ d. omega arith };
    risen = λ d is. inl is;
  }

  -- no call is made
  module _ (a : Core R g) (copied : List Bool) where
    pub leaves_unmarked : IsCoreReady count slot a → IsStillOut (named_of a.store) a.meta → IsMarkedOrBefore (slot (store_rack a.store)) (slot (store_rack a.store)) a.copied copied → LeavesCore count slot a (record a { copied = copied })
    leaves_unmarked ready still marks = record {
      slots = refl;
      same = record { disks = refl; epoch = refl; named = refl };
      meta = record { lost = None; is = refl; alone = λ d x is. let z : None ≡ Some d = is in cc };
      table = refl;
      batch = refl;
      draft = refl;
      ready = ready;
      serves = λ s. s;
      absent = λ s. s;
      unsynced = λ was d low stays here wet. marked_still (slot (store_rack a.store)) (slot (store_rack a.store)) a.copied copied (λ e h. refl) marks d here wet (was d low stays);
      still = still;
      spared = record { power = λ d here. refl; size = λ d here. refl; no_fall = λ d. omega arith };
      risen = λ d is. inl is;
    }

    pub stands_marked : ((t : Trail) (x p : ℕ) → told (store_rack a.store) ≡ Some t → IsPresent (now t) x → (x < a.meta.setup.geometry.disks → is_copied copied x ≡ false) → (h : History) (lo : ℕ) → CoreStandsFor count a h lo (now t)
        → (now t).loose x p ≡ false) → (h : History) (lo : ℕ)
        → Ran (told (store_rack a.store)) (told (store_rack a.store)) (CrashTriple (IsCoreHeldSinceCommit count a h lo) (CoreStandsFor count a h lo)
        (HoldsBetweenCalls (count (store_rack a.store)) (named_of a.store) a.meta a.dirty a.batch copied h lo))
    stands_marked places h lo =
        stays (IsCoreHeldSinceCommit count a h lo) (CoreStandsFor count a h lo) (HoldsBetweenCalls (count (store_rack a.store)) (named_of a.store) a.meta a.dirty a.batch copied h lo) (told (store_rack a.store))
        (keeps_held (count (store_rack a.store)) (named_of a.store) a.meta a.dirty a.batch copied h lo)
        (λ t tells k. keeps_marked (count (store_rack a.store)) (named_of a.store) a.meta a.dirty a.batch a.copied h lo copied (now t) (λ x p here synced. places t x p tells here synced h lo k) k)

  pub held_none : (a : Core R g) → IsHeldStill count told a a
  held_none a h lo =
      let k = keeps_held (count (store_rack a.store)) (named_of a.store) a.meta a.dirty a.batch a.copied h lo in
      stays (IsCoreHeldSinceCommit count a h lo) (CoreStandsFor count a h lo) (IsCoreHeldSinceCommit count a h lo) (told (store_rack a.store)) (λ s p. p) (λ t tells x. k (now t) x)

  pub runs_none : (a : Core R g) (A : Disks → Type 0) (h : History) (lo : ℕ) → ((s : Disks) → A s → HoldsBetweenCalls (count (store_rack a.store)) (named_of a.store) a.meta a.dirty [] a.copied h lo s)
      → Ran (told (store_rack a.store)) (told (store_rack a.store)) (CrashTriple (IsCoreHeldSinceCommit count a h lo) A A)
  runs_none a A h lo keeps =
      stays (IsCoreHeldSinceCommit count a h lo) A A (told (store_rack a.store)) (λ s k. keeps_held (count (store_rack a.store)) (named_of a.store) a.meta a.dirty [] a.copied h lo s (keeps s k)) (λ t tells k. k)

  -- what holds at each moment holds at the end
  pub runs_end : (a : Core R g) (told_then : Option Trail) (A B : Disks → Type 0) (h : History) (lo : ℕ) → Ran (told (store_rack a.store)) told_then (CrashTriple (IsCoreHeldSinceCommit count a h lo) A B)
      → Ran (told (store_rack a.store)) told_then (CrashTriple (IsCoreHeldSinceCommit count a h lo) A (IsCoreHeldSinceCommit count a h lo))
  runs_end a told_then A B h lo ran t tells =
      let r = ran t tells in
      record {
        from = r.from;
        was = r.was;
        calls = r.calls;
        is = r.is;
        holds = record { goes = λ k. let both = r.holds.goes k in (both.0, through_last (IsCoreHeldSinceCommit count a h lo) (now r.from) r.calls both.0) };
      }

  pub stands_none : (a : Core R g) → StandsStill count told a a
  stands_none a h lo =
      stays (IsCoreHeldSinceCommit count a h lo) (CoreStandsFor count a h lo) (CoreStandsFor count a h lo) (told (store_rack a.store))
      (keeps_held (count (store_rack a.store)) (named_of a.store) a.meta a.dirty a.batch a.copied h lo) (λ t tells k. k)

  pub filled_none : (a : Core R g) → StaysFilled count told a a
  filled_none a whole = (refl, λ h lo end. runs_none a (Filled count a h lo end) h lo (λ s kf. kf.keeps))

  module _ (a b : Core R g) (first : LeavesCore count slot a b) where
    since_same : (h : History) (lo : ℕ) → IsCoreHeldSinceCommit count b h lo ≡ IsCoreHeldSinceCommit count a h lo
    since_same h lo = λ i. IsHeldWithOneMissing (first.slots i) ((marked_from_setup a.meta b.meta first.meta i).geometry.disks) (first.same.named i) h lo

    pub stands_held : StandsStill count told a b → IsHeldStill count told a b
    stands_held one h lo t tells =
        let r = one h lo t tells in
        record {
          from = r.from;
          was = r.was;
          calls = r.calls;
          is = r.is;
          holds = record { goes = λ k. let both = r.holds.goes k in (both.0, through_last (IsCoreHeldSinceCommit count a h lo) (now r.from) r.calls both.0) };
        }

    module _ (c : Core R g) where
      pub leaves_then : LeavesCore count slot b c → LeavesCore count slot a c
      leaves_then second = record {
        slots = second.slots ∙ first.slots;
        same = record { disks = second.same.disks ∙ first.same.disks; epoch = second.same.epoch ∙ first.same.epoch; named = second.same.named ∙ first.same.named };
        meta = marked_then a.meta b.meta c.meta first.meta second.meta;
        table = second.table ∙ first.table;
        batch = second.batch ∙ first.batch;
        draft = second.draft ∙ first.draft;
        ready = second.ready;
        serves = λ s. second.serves (first.serves s);
        absent = λ s. second.absent (first.absent s);
        unsynced = λ s. second.unsynced (first.unsynced s);
        still = second.still;
        spared = spared_then (slot (store_rack a.store)) (slot (store_rack b.store)) (slot (store_rack c.store)) first.spared second.spared;
        risen = λ d is. elim (second.risen d is) [
          | inr late ↦ inr (HasRisen-sooner _ _ _ (first.spared.no_fall d) late)
          | inl was ↦ elim (first.risen d was) [
            | inl long ↦ inl long
            | inr early ↦ inr (HasRisen-later _ _ _ early (second.spared.no_fall d))
          ]
        ];
      }

      pub stands_then : StandsStill count told a b → StandsStill count told b c → StandsStill count told a c
      stands_then one two h lo =
          then (IsCoreHeldSinceCommit count a h lo) (CoreStandsFor count a h lo) (CoreStandsFor count b h lo) (CoreStandsFor count c h lo) _ _ _ (one h lo)
          (subst (λ (P : Disks → Type 0). Ran (told (store_rack b.store)) (told (store_rack c.store)) (CrashTriple P (CoreStandsFor count b h lo) (CoreStandsFor count c h lo))) (since_same h lo) (two h lo))

      pub held_then : StandsStill count told a b → IsHeldStill count told b c → IsHeldStill count told a c
      held_then one two h lo =
          then (IsCoreHeldSinceCommit count a h lo) (CoreStandsFor count a h lo) (CoreStandsFor count b h lo) (IsCoreHeldSinceCommit count a h lo) _ _ _ (one h lo)
          (subst (λ (P : Disks → Type 0). Ran (told (store_rack b.store)) (told (store_rack c.store)) (CrashTriple P (CoreStandsFor count b h lo) P)) (since_same h lo) (two h lo))

      -- from any start to any end
      pub runs_then : (A B C : Disks → Type 0) (h : History) (lo : ℕ) → Ran (told (store_rack a.store)) (told (store_rack b.store)) (CrashTriple (IsCoreHeldSinceCommit count a h lo) A B)
          → Ran (told (store_rack b.store)) (told (store_rack c.store)) (CrashTriple (IsCoreHeldSinceCommit count b h lo) B C) → Ran (told (store_rack a.store)) (told (store_rack c.store)) (CrashTriple (IsCoreHeldSinceCommit count a h lo) A C)
      runs_then A B C h lo one two =
          then (IsCoreHeldSinceCommit count a h lo) A B C _ _ _ one
          (subst (λ (P : Disks → Type 0). Ran (told (store_rack b.store)) (told (store_rack c.store)) (CrashTriple P B C)) (since_same h lo) two)

      pub filled_then : LeavesCore count slot b c → StaysFilled count told a b → StaysFilled count told b c → StaysFilled count told a c
      filled_then second one two whole =
          let same = unmarked b.meta c.meta second.meta whole in
          let was = one (ap (λ (m : Meta). m.out) (sym same) ∙ whole) in
          let now = two whole in
          (same ∙ was.0, λ h lo end. runs_then (Filled count a h lo end) (Filled count b h lo end) (Filled count c h lo end) h lo (was.1 h lo end) (now.1 h lo end))

      pub held_runs_then : (A B : Disks → Type 0) (h : History) (lo : ℕ) → Ran (told (store_rack a.store)) (told (store_rack b.store)) (CrashTriple (IsCoreHeldSinceCommit count a h lo) A B)
          → Ran (told (store_rack b.store)) (told (store_rack c.store)) (CrashTriple (IsCoreHeldSinceCommit count b h lo) B (IsCoreHeldSinceCommit count b h lo)) → Ran (told (store_rack a.store)) (told (store_rack c.store)) (CrashTriple (IsCoreHeldSinceCommit count a h lo) A (IsCoreHeldSinceCommit count a h lo))
      held_runs_then A B h lo one two =
          then (IsCoreHeldSinceCommit count a h lo) A B (IsCoreHeldSinceCommit count a h lo) _ _ _ one
          (subst (λ (P : Disks → Type 0). Ran (told (store_rack b.store)) (told (store_rack c.store)) (CrashTriple P B P)) (since_same h lo) two)

      -- the second disk that fails, and the one that was down, or has failed before it
      pub two_then : OnlyLosesSlots (slot (store_rack b.store)) (slot (store_rack c.store)) → (two : Two)
          → AreTwoDown (or_else (named_of b.store) (named_out b.meta.out)) (slot (store_rack b.store)) (slot (store_rack c.store)) two
          → AreTwoDown (or_else (named_of a.store) (named_out a.meta.out)) (slot (store_rack a.store)) (slot (store_rack c.store)) two
      two_then spared two it = record {
        first = elim it.first [
          | inr late ↦ inr (HasRisen-sooner _ _ _ (first.spared.no_fall two.first) late)
          | inl down ↦ by (named_of a.store) refl (ap (λ (o : Option ℕ). or_else o (named_out b.meta.out)) (sym first.same.named) ∙ down)
        ];
        apart = it.apart;
        second = HasRisen-sooner _ _ _ (first.spared.no_fall two.second) it.second;
      }
        where
          by : (o : Option ℕ) → named_of a.store ≡ o → or_else (named_of a.store) (named_out b.meta.out) ≡ Some two.first
              → (or_else (named_of a.store) (named_out a.meta.out) ≡ Some two.first) ⊎ HasRisen (slot (store_rack a.store) two.first).faults (slot (store_rack c.store) two.first).faults
          by (Some e) is down =
              inl (ap (λ (o : Option ℕ). or_else o (named_out a.meta.out)) is ∙ sym (ap (λ (o : Option ℕ). or_else o (named_out b.meta.out)) is) ∙ down)
          by None is down = elim (first.risen two.first (sym (ap (λ (o : Option ℕ). or_else o (named_out b.meta.out)) is) ∙ down)) [
            | inl was ↦ inl (ap (λ (o : Option ℕ). or_else o (named_out a.meta.out)) is ∙ was)
            | inr early ↦ inr (HasRisen-later _ _ _ early (spared.no_fall two.first))
          ]
