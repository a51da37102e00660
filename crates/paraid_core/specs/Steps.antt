-- What one call between two commits leaves of a core.
use Rattle.std.specs.Prelude.{◌≡◌, ◌≢◌, ℕ, ◌<◌, ◌≤◌, ◌⊎◌, Bool, true, false, List, Option, Some}
use Rattle.paraid_base.specs.History.{History}
use Rattle.paraid_base.specs.States.{gone_out}
use Rattle.paraid_base.specs.Told.{HasRisen}
use Rattle.paraid_rack.specs.Disks.{is_present}
use Rattle.paraid_rack.specs.Slots.{Slot}
use Rattle.paraid_rack.specs.Told.{Ran, CrashTriple}
use Rattle.paraid_rack.specs.Trail.{Trail}
use Rattle.paraid_record.specs.declared.meta.Meta.{Meta}
use Rattle.paraid_image.specs.Out.{named_out}
use Rattle.paraid_image.specs.Mark.{meta_with_lost}
use Rattle.paraid_txn.specs.Losses.{OnlyLosesSlots}
use Rattle.paraid_txn.specs.Stores.{IsSameStore, named_of, store_rack}
use Rattle.paraid_core.specs.Cores.{IsCoreHeldSinceCommit, IsCoreReady, CanCoreServe, CoreStandsFor}
use Rattle.paraid_core.specs.CoreInvariant.{is_copied, lost_in}
use Rattle.paraid_core.specs.declared.staged.Core.{Core}

-- the meta is as it was, but for the marks of a disk that was lost while no other one was out
pub record IsMarkedFrom (m new : Meta) : Type 0 where
  pub lost : Option ℕ
  pub is : new ≡ meta_with_lost lost m
  pub alone : (d x : ℕ) → lost ≡ Some d → named_out m.out ≡ Some x → x ≡ d

-- this disk was lost, or none, and no other one is out
pub record IsPutOut (m new : Meta) (lost : Option ℕ) : Type 0 where
  pub marked : new ≡ meta_with_lost (lost_in m lost) m
  pub alone : (d x : ℕ)
      → lost ≡ Some d → named_out m.out ≡ Some x → d < m.setup.geometry.disks → x ≡ d

-- the disk that the last commit names out is out still
abbrev pub IsStillOut : Option ℕ → Meta → Type 0
IsStillOut named m = (d : ℕ) → named ≡ Some d → named_out m.out ≡ Some d

-- the disk that is out is the one that the last commit names out, or it is absent
abbrev pub IsNamedOrAbsent : {R : Type 0} {g : _} → (R → ℕ → Slot) → Core R g → Type 0
IsNamedOrAbsent slot core = (d : ℕ) → named_out core.meta.out ≡ Some d
    → (named_of core.store ≡ Some d) ⊎ (is_present (slot (store_rack core.store) d).power ≡ false)

-- a disk of the array that is there and not gone, and that is unsynced, is one to which copies went
abbrev pub AreUnsyncedCopied : {R : Type 0} {g : _} → (R → ℕ → Slot) → Core R g → Type 0
AreUnsyncedCopied slot core = (d : ℕ) → d < core.meta.setup.geometry.disks
    → gone_out core.meta.out ≢ Some d → is_present (slot (store_rack core.store) d).power ≡ true
    → (slot (store_rack core.store) d).unsynced ≡ true → is_copied core.copied d ≡ true

-- A disk that is there was there before, with the same size, and no count of faults falls.
pub record OnlyPowersDisks (old new : ℕ → Slot) : Type 0 where
  pub there : (d : ℕ) → is_present (new d).power ≡ true → is_present (old d).power ≡ true
  pub size : (d : ℕ) → is_present (new d).power ≡ true → (new d).size ≡ (old d).size
  pub no_fall : (d : ℕ) → (old d).faults ≤ (new d).faults

-- Over every rack: what is staged is as it was, and a disk that was lost is marked; it has failed.
pub record LeavesCore
    {R : Type 0} {g : _} (count : R → ℕ) (slot : R → ℕ → Slot) (old new : Core R g) : Type 0 where
  pub slots : count (store_rack new.store) ≡ count (store_rack old.store)
  pub same : IsSameStore old.store new.store
  pub meta : IsMarkedFrom old.meta new.meta
  pub table : new.dirty ≡ old.dirty
  pub batch : new.batch ≡ old.batch
  pub draft : new.draft ≡ old.draft
  pub ready : IsCoreReady count slot new
  pub serves : CanCoreServe slot old → CanCoreServe slot new
  pub absent : IsNamedOrAbsent slot old → IsNamedOrAbsent slot new
  pub unsynced : AreUnsyncedCopied slot old → AreUnsyncedCopied slot new
  pub still : IsStillOut (named_of new.store) new.meta
  pub spared : OnlyLosesSlots (slot (store_rack old.store)) (slot (store_rack new.store))
  pub risen : (d : ℕ) → named_out new.meta.out ≡ Some d → (named_out old.meta.out ≡ Some d)
      ⊎ HasRisen (slot (store_rack old.store) d).faults (slot (store_rack new.store) d).faults

-- copies may be unsynced on the same disks, but for this one, which is synced
pub record IsCleared (old new : List Bool) (d : ℕ) : Type 0 where
  pub here : is_copied new d ≡ false
  pub others : (x : ℕ) → x ≢ d → is_copied new x ≡ is_copied old x

-- copies may be unsynced on this disk too
pub record IsMarkedAt (old new : List Bool) (d : ℕ) : Type 0 where
  pub here : is_copied new d ≡ true
  pub others : (x : ℕ) → x ≢ d → is_copied new x ≡ is_copied old x

-- the writes that the core stands for are as they were, and so is what each stop leaves of them
abbrev pub StandsStill : {R : Type 0} {g : _}
    → (R → ℕ) → (R → Option Trail) → Core R g → Core R g → Type 0
StandsStill count told old new = (h : History) (lo : ℕ) → Ran (told (store_rack old.store))
    (told (store_rack new.store)) (CrashTriple (IsCoreHeldSinceCommit count old h lo)
    (CoreStandsFor count old h lo) (CoreStandsFor count new h lo))

-- each stop leaves what it left before, whatever the call answered
abbrev pub IsHeldStill : {R : Type 0} {g : _}
    → (R → ℕ) → (R → Option Trail) → Core R g → Core R g → Type 0
IsHeldStill count told old new = (h : History) (lo : ℕ) → Ran (told (store_rack old.store))
    (told (store_rack new.store)) (CrashTriple (IsCoreHeldSinceCommit count old h lo)
    (CoreStandsFor count old h lo) (IsCoreHeldSinceCommit count old h lo))
