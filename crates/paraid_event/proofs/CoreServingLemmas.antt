-- One call after the other, of a core that can serve.
use Rattle.std.specs.Prelude.{◌≡◌, ℕ, ◌<◌, ◌≤◌, ◌⊎◌, Bool, true, false, List, Option, Some, None, length}
use Rattle.std.proofs.Common.{refl, sym, ◌∙◌, ap, subst, arith, inl, inr}
use Rattle.std.proofs.lemmas.Bool.{cases_Bool}
use Rattle.paraid_base.specs.declared.fault.Two.{Two}
use Rattle.paraid_base.specs.declared.state.Out.{Out}
use Rattle.paraid_base.specs.declared.state.Out.TheVariants.{Fresh, Gone, No}
use Rattle.paraid_base.specs.declared.state.Phase.{Phase}
use Rattle.paraid_base.specs.declared.state.Phase.TheVariants.{Down, Steady, Up}
use Rattle.paraid_base.specs.History.{History}
use Rattle.paraid_base.specs.States.{gone_out, has_out, phase_beside}
use Rattle.paraid_base.specs.Regions.{disk_size}
use Rattle.paraid_base.specs.Told.{HasRisen}
use Rattle.paraid_base.proofs.ToldLemmas.{HasRisen-later, HasRisen-sooner}
use Rattle.paraid_rack.specs.Disks.{Disks, is_present}
use Rattle.paraid_rack.specs.Slots.{Slot}
use Rattle.paraid_rack.specs.Told.{CrashTriple, Ran}
use Rattle.paraid_rack.specs.Trail.{Trail, now, run}
use Rattle.paraid_rack.proofs.TrailsLemmas.{then}
use Rattle.paraid_record.specs.declared.meta.Meta.{Meta}
use Rattle.paraid_record.specs.declared.meta.Setup.{Setup}
use Rattle.paraid_image.specs.Mark.{meta_after_loss, meta_with_lost}
use Rattle.paraid_image.specs.Out.{named_out, or_else}
use Rattle.paraid_txn.specs.declared.store.Store.{Store}
use Rattle.paraid_txn.specs.Losses.{AreTwoDown, OnlyLosesSlots}
use Rattle.paraid_txn.specs.Stores.{IsSameStore, named_of, store_rack}
use Rattle.paraid_core.specs.declared.staged.Core.{Core}
use Rattle.paraid_core.specs.CoreInvariant.{AreCopiesSynced, IsHeldWithOneMissing, is_copied}
use Rattle.paraid_core.specs.Cores.{CanCoreServe, CoreStandsFor, IsCoreHeldSinceCommit, IsCoreReady, core_down}
use Rattle.paraid_core.specs.Fills.{KeepsFilled}
use Rattle.paraid_core.specs.Down.{IsDownAfter}
use Rattle.paraid_core.specs.Steps.{AreUnsyncedCopied, IsMarkedFrom, IsNamedOrAbsent, IsStillOut, LeavesCore, OnlyPowersDisks}
use Rattle.paraid_core.proofs.AfterLemmas.{marked_writes}
use Rattle.paraid_core.proofs.ChainLemmas.{keeps_low}
use Rattle.paraid_core.proofs.StepLemmas.{marked_from_setup}
use Rattle.paraid_event.specs.CoreServing.{AreAllLarge, IsCoreServing, LeavesArray, RestsInShift}

-- the disk that was out is out still
pub marked_named : (a b : Meta) → IsMarkedFrom a b → (x : ℕ) → named_out a.out ≡ Some x → named_out b.out ≡ Some x
marked_named a b marked x is = by marked.lost refl
  where
    by : (o : Option ℕ) → marked.lost ≡ o → named_out b.out ≡ Some x
    by None e = ap (λ (m : Meta). named_out m.out) (marked.is ∙ ap (λ (o : Option ℕ). meta_with_lost o a) e) ∙ is
    by (Some d) e =
        ap (λ (m : Meta). named_out m.out) (marked.is ∙ ap (λ (o : Option ℕ). meta_with_lost o a) e) ∙ ap Some (sym (marked.alone d x e is))

-- where no disk is out
pub none_known : {A : Type 0} (m : Meta) → m.out ≡ No → (d : ℕ) → named_out m.out ≡ Some d → A
none_known m whole d is = let z : None ≡ Some d = sym (ap named_out whole) ∙ is in absurd cc

pub none_away : {R : Type 0} {g : _} (slot : R → ℕ → Slot) (core : Core R g) → core.meta.out ≡ No → IsNamedOrAbsent slot core
none_away slot core whole d is = none_known core.meta whole d is

lost_twice : (p : Phase) → phase_beside true (phase_beside true p) ≡ phase_beside true p
lost_twice Steady = refl
lost_twice (Down to) = refl
lost_twice (Up to) = refl

-- marks of the same disk are one mark
pub marked_then : (a b c : Meta) → IsMarkedFrom a b → IsMarkedFrom b c → IsMarkedFrom a c
marked_then a b c first second = by first.lost second.lost refl refl
  where
    by : (p q : Option ℕ) → first.lost ≡ p → second.lost ≡ q → IsMarkedFrom a c
    by None q ep eq = record {
      lost = second.lost;
      is = second.is ∙ ap (meta_with_lost second.lost) (first.is ∙ ap (λ (o : Option ℕ). meta_with_lost o a) ep);
      alone = λ d x is k. second.alone d x is (ap (λ (z : Meta). named_out z.out) (first.is ∙ ap (λ (o : Option ℕ). meta_with_lost o a) ep) ∙ k);
    }
    by (Some d) None ep eq = record {
      lost = first.lost;
      is = second.is ∙ ap (λ (o : Option ℕ). meta_with_lost o b) eq ∙ first.is;
      alone = first.alone;
    }
    by (Some d) (Some e) ep eq =
        let mid : b ≡ meta_after_loss a d = first.is ∙ ap (λ (o : Option ℕ). meta_with_lost o a) ep in
        let same : d ≡ e = second.alone e d eq (ap (λ (z : Meta). named_out z.out) mid) in
        record {
          lost = first.lost;
          is = second.is ∙ ap (λ (o : Option ℕ). meta_with_lost o b) eq ∙ ap (λ (z : Meta). meta_after_loss z e) mid
              ∙ ap (λ (p : Phase). record a { out = Gone e; phase = p; fill = 0 }) (lost_twice a.phase) ∙ ap (λ (x : ℕ). meta_after_loss a x) (sym same) ∙ sym (ap (λ (o : Option ℕ). meta_with_lost o a) ep);
          alone = first.alone;
        }

-- none was lost
pub marked_none : (m : Meta) → IsMarkedFrom m m
marked_none m = record { lost = None; is = refl; alone = λ d x is. let z : None ≡ Some d = is in absurd cc }

pub marked_gear : (a b : Meta) → IsMarkedFrom a b → b.gear ≡ a.gear
marked_gear a b m = ap (λ (z : Meta). z.gear) m.is ∙ by m.lost
  where
    by : (o : Option ℕ) → (meta_with_lost o a).gear ≡ a.gear
    by None = refl
    by (Some d) = refl

pub marked_steady : (a b : Meta) → IsMarkedFrom a b → a.phase ≡ Steady → b.phase ≡ Steady
marked_steady a b m steady = ap (λ (z : Meta). z.phase) m.is ∙ by m.lost
  where
    by : (o : Option ℕ) → (meta_with_lost o a).phase ≡ Steady
    by None = steady
    by (Some d) = ap (phase_beside true) steady

pub same_none : {R : Type 0} {g : _} (a : Store R g) → IsSameStore a a
same_none a = record { disks = refl; epoch = refl; named = refl }

pub same_then : {R : Type 0} {g : _} (a b c : Store R g) → IsSameStore a b → IsSameStore b c → IsSameStore a c
same_then a b c first second = record { disks = second.disks ∙ first.disks; epoch = second.epoch ∙ first.epoch; named = second.named ∙ first.named }

pub turns_none : (a : ℕ → Slot) → OnlyPowersDisks a a
turns_none a = record { there = λ d here. here; size = λ d here. refl; no_fall = λ d. omega arith }

pub turns_lost : (a b : ℕ → Slot) → OnlyLosesSlots a b → OnlyPowersDisks a b
turns_lost a b spared = record { there = λ d here. ap is_present (sym (spared.power d here)) ∙ here; size = spared.size; no_fall = spared.no_fall }

pub turns_then : (a b c : ℕ → Slot) → OnlyPowersDisks a b → OnlyPowersDisks b c → OnlyPowersDisks a c
turns_then a b c first second = record {
  there = λ d here. first.there d (second.there d here);
  size = λ d here. second.size d here ∙ first.size d (second.there d here);
  no_fall = λ d. let one = first.no_fall d in let two = second.no_fall d in omega arith;
}

-- each disk that is not out is as large as before
pub large_then : (a b : ℕ → Slot) (m n : Meta) → AreAllLarge a m → OnlyPowersDisks a b → n.setup ≡ m.setup → ((d : ℕ) → named_out m.out ≡ Some d → named_out n.out ≡ Some d)
    → ((d : ℕ) → d < n.setup.geometry.disks → is_present (b d).power ≡ false → named_out n.out ≡ Some d) → AreAllLarge b n
large_then a b m n large turns setup stays absent d low not = elim (cases_Bool (is_present (b d).power)) [
  | inr away ↦ absurd (not (absent d low away))
  | inl here ↦
      let was = large d (subst (λ (z : Setup). d < z.geometry.disks) setup low) (λ is. not (stays d is)) in
      let same = turns.size d here in
      let setups : disk_size n.setup.geometry ≡ disk_size m.setup.geometry = ap (λ (z : Setup). disk_size z.geometry) setup in
      omega arith
]

-- which disk is down, and why
pub down_none : (was : Option ℕ) (a : ℕ → Slot) → IsDownAfter was was a a
down_none was a = record { known = λ d is. inl is }

pub down_then : (o p q : Option ℕ) (a b c : ℕ → Slot) → IsDownAfter o p a b → OnlyPowersDisks a b → IsDownAfter p q b c → OnlyPowersDisks b c → IsDownAfter o q a c
down_then o p q a b c first turns second later = record {
  known = λ d is. elim (second.known d is) [
    | inr risen ↦ inr (HasRisen-sooner (a d).faults (b d).faults (c d).faults (turns.no_fall d) risen)
    | inl was ↦ elim (first.known d was) [
      | inl known ↦ inl known
      | inr risen ↦ inr (HasRisen-later (a d).faults (b d).faults (c d).faults risen (later.no_fall d))
    ]
  ];
}

pub two_later : (o p : Option ℕ) (a b c : ℕ → Slot) (two : Two) → IsDownAfter o p a b → OnlyPowersDisks a b → ((d : ℕ) → (b d).faults ≤ (c d).faults) → AreTwoDown p b c two → AreTwoDown o a c two
two_later o p a b c two first turns later it = record {
  first = elim it.first [
    | inr risen ↦ inr (HasRisen-sooner (a two.first).faults (b two.first).faults (c two.first).faults (turns.no_fall two.first) risen)
    | inl was ↦ elim (first.known two.first was) [
      | inl known ↦ inl known
      | inr risen ↦ inr (HasRisen-later (a two.first).faults (b two.first).faults (c two.first).faults risen (later two.first))
    ]
  ];
  apart = it.apart;
  second = HasRisen-sooner (a two.second).faults (b two.second).faults (c two.second).faults (turns.no_fall two.second) it.second;
}

-- one disk, with no commit
pub down_risen : (o o_then p q : Option ℕ) (a b : ℕ → Slot) → o_then ≡ o → ((d : ℕ) → q ≡ Some d → (p ≡ Some d) ⊎ HasRisen (a d).faults (b d).faults) → IsDownAfter (or_else o p) (or_else o_then q) a b
down_risen o o_then p q a b same risen = subst (λ (z : Option ℕ). IsDownAfter (or_else o p) (or_else z q) a b) (sym same) (by o)
  where
    by : (o : Option ℕ) → IsDownAfter (or_else o p) (or_else o q) a b
    by None = record { known = risen }
    by (Some e) = record { known = λ d is. inl is }

pub marked_writes_same : (a b : Meta) → IsMarkedFrom a b → b.writes ≡ a.writes
marked_writes_same a b m = ap (λ (z : Meta). z.writes) m.is ∙ marked_writes m.lost a

pub marked_version : (a b : Meta) → IsMarkedFrom a b → b.version ≡ a.version
marked_version a b m = ap (λ (z : Meta). z.version) m.is ∙ by m.lost
  where
    by : (o : Option ℕ) → (meta_with_lost o a).version ≡ a.version
    by None = refl
    by (Some d) = refl

-- a park or a spin-up
pub leaves_turned : {R : Type 0} {g : _} (count : R → ℕ) (slot : R → ℕ → Slot) (a b : Core R g) → count (store_rack b.store) ≡ count (store_rack a.store) → IsSameStore a.store b.store → IsMarkedFrom a.meta b.meta
    → OnlyPowersDisks (slot (store_rack a.store)) (slot (store_rack b.store))
    → ((d : ℕ) → named_out b.meta.out ≡ Some d → (named_out a.meta.out ≡ Some d) ⊎ HasRisen (slot (store_rack a.store) d).faults (slot (store_rack b.store) d).faults) → LeavesArray count slot a b
leaves_turned count slot a b slots same marked turned risen = record {
  slots = slots;
  setup = marked_from_setup a.meta b.meta marked;
  version = marked_version a.meta b.meta marked;
  writes = marked_writes_same a.meta b.meta marked;
  turned = turned;
  down = down_risen (named_of a.store) (named_of b.store) (named_out a.meta.out) (named_out b.meta.out) (slot (store_rack a.store)) (slot (store_rack b.store)) same.named risen;
}

-- the disk that the last commit names out is out still
pub still_then : {R : Type 0} {g : _} (a b : Core R g) → IsSameStore a.store b.store → IsMarkedFrom a.meta b.meta → IsStillOut (named_of a.store) a.meta → IsStillOut (named_of b.store) b.meta
still_then a b same marked still d is = marked_named a.meta b.meta marked d (still d (sym same.named ∙ is))

pub leaves_array_then : {R : Type 0} {g : _} (count : R → ℕ) (slot : R → ℕ → Slot) (a b c : Core R g) → LeavesArray count slot a b → LeavesArray count slot b c → LeavesArray count slot a c
leaves_array_then count slot a b c first second = record {
  slots = second.slots ∙ first.slots;
  setup = second.setup ∙ first.setup;
  version = second.version ∙ first.version;
  writes = second.writes ∙ first.writes;
  turned = turns_then (slot (store_rack a.store)) (slot (store_rack b.store)) (slot (store_rack c.store)) first.turned second.turned;
  down = down_then (core_down a) (core_down b) (core_down c) (slot (store_rack a.store)) (slot (store_rack b.store)) (slot (store_rack c.store)) first.down first.turned second.down second.turned;
}

-- two disks are down after the second call
pub two_array : {R : Type 0} {g : _} (count : R → ℕ) (slot : R → ℕ → Slot) (a b c : Core R g) → LeavesArray count slot a b → ((d : ℕ) → (slot (store_rack b.store) d).faults ≤ (slot (store_rack c.store) d).faults)
    → (two : Two) → AreTwoDown (core_down b) (slot (store_rack b.store)) (slot (store_rack c.store)) two → AreTwoDown (core_down a) (slot (store_rack a.store)) (slot (store_rack c.store)) two
two_array count slot a b c leaves later two it =
    two_later (core_down a) (core_down b) (slot (store_rack a.store)) (slot (store_rack b.store)) (slot (store_rack c.store)) two leaves.down leaves.turned later it

pub leaves_array_none : {R : Type 0} {g : _} (count : R → ℕ) (slot : R → ℕ → Slot) (a : Core R g) → LeavesArray count slot a a
leaves_array_none count slot a = record {
  slots = refl;
  setup = refl;
  version = refl;
  writes = refl;
  turned = turns_none (slot (store_rack a.store));
  down = down_none (core_down a) (slot (store_rack a.store));
}

-- the copies are synced, as before
pub copies_kept : {R : Type 0} {g : _} (a b : Core R g) → b.meta.setup ≡ a.meta.setup → b.copied ≡ a.copied → AreCopiesSynced a.meta.setup.geometry.disks a.copied → AreCopiesSynced b.meta.setup.geometry.disks b.copied
copies_kept a b setup copied synced d low = ap (λ (z : List Bool). is_copied z d) copied ∙ synced d (subst (λ (z : Setup). d < z.geometry.disks) setup low)

module _ {R : Type 0} {g : _} (count : R → ℕ) (slot : R → ℕ → Slot) (a b : Core R g) (q : IsCoreServing count slot a) (setup : b.meta.setup ≡ a.meta.setup) where
  pub copies_still : b.copied ≡ a.copied → AreCopiesSynced b.meta.setup.geometry.disks b.copied
  copies_still copied = copies_kept a b setup copied q.copies_synced

  -- nothing was called
  pub unsynced_still : ((d : ℕ) → gone_out a.meta.out ≡ Some d → gone_out b.meta.out ≡ Some d) → b.store ≡ a.store → b.copied ≡ a.copied → AreUnsyncedCopied slot b
  unsynced_still out store copied d low stays here wet =
      ap (λ (z : List Bool). is_copied z d) copied
      ∙ q.unsynced d (subst (λ (z : Setup). d < z.geometry.disks) setup low) (λ is. stays (out d is)) (ap (λ (z : _). is_present (slot (store_rack z) d).power) (sym store) ∙ here) (ap (λ (z : _). (slot (store_rack z) d).unsynced) (sym store) ∙ wet)

-- calls between two commits
module _ {R : Type 0} {g : _} (count : R → ℕ) (slot : R → ℕ → Slot) (a b : Core R g) (l : LeavesCore count slot a b) where
  pub array_left : LeavesArray count slot a b
  array_left = leaves_turned count slot a b l.slots l.same l.meta (turns_lost (slot (store_rack a.store)) (slot (store_rack b.store)) l.spared) l.risen

  pub serving_left : IsCoreServing count slot a → AreCopiesSynced b.meta.setup.geometry.disks b.copied → IsCoreServing count slot b
  serving_left q synced = record {
    ready = l.ready;
    serves = l.serves q.serves;
    draft = l.draft ∙ q.draft;
    copies_synced = synced;
    unsynced = l.unsynced q.unsynced;
    large = large_then (slot (store_rack a.store)) (slot (store_rack b.store)) a.meta b.meta q.large (turns_lost (slot (store_rack a.store)) (slot (store_rack b.store)) l.spared)
        (marked_from_setup a.meta b.meta l.meta) (marked_named a.meta b.meta l.meta) l.ready.absent;
  }

-- marks: no call is made
module _ {R : Type 0} {g : _} (count : R → ℕ) (slot : R → ℕ → Slot) (a b : Core R g) (store : b.store ≡ a.store) (setup : b.meta.setup ≡ a.meta.setup) (out : b.meta.out ≡ a.meta.out) where
  pub array_marked : b.meta.version ≡ a.meta.version → b.meta.writes ≡ a.meta.writes → LeavesArray count slot a b
  array_marked version writes = record {
    slots = ap (λ (z : Store R g). count (store_rack z)) store;
    setup = setup;
    version = version;
    writes = writes;
    turned = subst (λ (z : Store R g). OnlyPowersDisks (slot (store_rack a.store)) (slot (store_rack z))) (sym store) (turns_none (slot (store_rack a.store)));
    down = record { known = λ d is. inl (ap (λ (z : Store R g). or_else (named_of z) (named_out a.meta.out)) (sym store) ∙ ap (λ (z : _). or_else (named_of b.store) (named_out z)) (sym out) ∙ is) };
  }

  pub serving_marked : IsCoreServing count slot a → b.copied ≡ a.copied → b.draft ≡ a.draft → IsCoreReady count slot b → CanCoreServe slot b → IsCoreServing count slot b
  serving_marked q copied draft ready serves = record {
    ready = ready;
    serves = serves;
    draft = draft ∙ q.draft;
    copies_synced = copies_still count slot a b q setup copied;
    unsynced = unsynced_still count slot a b q setup (λ d is. ap gone_out out ∙ is) store copied;
    large = large_then (slot (store_rack a.store)) (slot (store_rack b.store)) a.meta b.meta q.large
        (subst (λ (z : Store R g). OnlyPowersDisks (slot (store_rack a.store)) (slot (store_rack z))) (sym store) (turns_none (slot (store_rack a.store)))) setup (λ d is. ap named_out out ∙ is) ready.absent;
  }

pub out_none : (o : Out) → has_out o ≡ false → o ≡ No
out_none No is = refl
out_none (Gone d) is = let z : true ≡ false = is in absurd cc
out_none (Fresh d u) is = let z : true ≡ false = is in absurd cc

-- the moments
module _ {R : Type 0} {g : _} (count : R → ℕ) (told : R → Option Trail) (a b : Core R g) (es : count (store_rack b.store) ≡ count (store_rack a.store)) (en : b.meta.setup ≡ a.meta.setup) (eo : named_of b.store ≡ named_of a.store) where
  held_same : (h : History) (lo : ℕ) → IsCoreHeldSinceCommit count b h lo ≡ IsCoreHeldSinceCommit count a h lo
  held_same h lo = λ i. IsHeldWithOneMissing (es i) ((en i).geometry.disks) (eo i) h lo

  pub chain : (A B C : Disks → Type 0) (h : History) (lo : ℕ) (told_then : Option Trail) → Ran (told (store_rack a.store)) (told (store_rack b.store)) (CrashTriple (IsCoreHeldSinceCommit count a h lo) A B)
      → Ran (told (store_rack b.store)) told_then (CrashTriple (IsCoreHeldSinceCommit count b h lo) B C) → Ran (told (store_rack a.store)) told_then (CrashTriple (IsCoreHeldSinceCommit count a h lo) A C)
  chain A B C h lo told_then one two =
      then (IsCoreHeldSinceCommit count a h lo) A B C _ _ _ one
      (subst (λ (P : Disks → Type 0). Ran (told (store_rack b.store)) told_then (CrashTriple P B C)) (held_same h lo) two)

  pub chain_held : (A B : Disks → Type 0) (h : History) (lo : ℕ) (told_then : Option Trail) → Ran (told (store_rack a.store)) (told (store_rack b.store)) (CrashTriple (IsCoreHeldSinceCommit count a h lo) A B)
      → Ran (told (store_rack b.store)) told_then (CrashTriple (IsCoreHeldSinceCommit count b h lo) B (IsCoreHeldSinceCommit count b h lo)) → Ran (told (store_rack a.store)) told_then (CrashTriple (IsCoreHeldSinceCommit count a h lo) A (IsCoreHeldSinceCommit count a h lo))
  chain_held A B h lo told_then one two =
      then (IsCoreHeldSinceCommit count a h lo) A B (IsCoreHeldSinceCommit count a h lo) _ _ _ one
      (subst (λ (P : Disks → Type 0). Ran (told (store_rack b.store)) told_then (CrashTriple P B P)) (held_same h lo) two)

-- a smaller bound holds too
module _ (slots : ℕ) (named : Option ℕ) (m : Meta) (table : List (List Bool)) (copied : List Bool) (h : History) (lo end : ℕ) (s : Disks) where
  filled_less : lo ≤ length h → KeepsFilled slots named m table copied h (length h) end s → KeepsFilled slots named m table copied h lo end s
  filled_less l kf =
      let k = kf.keeps in
      record {
        keeps = record {
          base = k.base;
          held = k.held;
          copies = record { copying = k.copies.copying; low = (let low = k.copies.low in omega arith); high = k.copies.high; content = k.copies.content };
          synced = k.synced;
          named_by = k.named_by;
          borne = k.borne;
          epoch = k.epoch;
          next = k.next;
          writes = k.writes;
          brought = k.brought;
          staged = k.staged;
          dirty = k.dirty;
        };
        shift = kf.shift;
        filled = kf.filled;
      }

pub lowered : {R : Type 0} {g : _} (count : R → ℕ) (old new : Core R g) (P : Disks → Type 0) (h : History) (lo : ℕ) (told told_then : Option Trail) → Ran told told_then (CrashTriple P (CoreStandsFor count old h lo) (RestsInShift count new h (length h)))
    → Ran told told_then (CrashTriple P (CoreStandsFor count old h lo) (RestsInShift count new h lo))
lowered count old new P h lo told told_then ran t tells =
    let r = ran t tells in
    record {
      from = r.from;
      was = r.was;
      calls = r.calls;
      is = r.is;
      holds = record {
        goes = λ k.
            let both = r.holds.goes k in
            let low = keeps_low (count (store_rack old.store)) (named_of old.store) old.meta old.dirty old.batch old.copied h lo (now r.from) k in
            (both.0, filled_less (count (store_rack new.store)) (named_of new.store) new.meta new.dirty new.copied h lo new.meta.fill (run (now r.from) r.calls) low both.1);
      };
    }
