-- A core between two events, and what an event leaves of it.
use Rattle.std.specs.Prelude.{◌≡◌, ◌≢◌, ℕ, ◌<◌, ◌≤◌, false, [], Option, Some}
use Rattle.paraid_base.specs.History.{History}
use Rattle.paraid_base.specs.Regions.{disk_size}
use Rattle.paraid_rack.specs.Disks.{Disks}
use Rattle.paraid_rack.specs.Slots.{Slot}
use Rattle.paraid_rack.specs.Told.{CrashTriple, Ran}
use Rattle.paraid_rack.specs.Trail.{Trail}
use Rattle.paraid_record.specs.declared.meta.Meta.{Meta}
use Rattle.paraid_image.specs.Out.{named_out}
use Rattle.paraid_session.specs.Powers.{FitsSlots}
use Rattle.paraid_txn.specs.Stores.{store_rack}
use Rattle.paraid_core.specs.declared.staged.Core.{Core}
use Rattle.paraid_core.specs.CellCopies.{CellsCopied}
use Rattle.paraid_core.specs.CoreInvariant.{AreCopiesSynced}
use Rattle.paraid_core.specs.Cores.{CanCoreServe, CoreStandsFor, IsCoreHeldSinceCommit, IsCoreReady, core_down}
use Rattle.paraid_core.specs.Down.{IsDownAfter}
use Rattle.paraid_core.specs.Fills.{Filled}
use Rattle.paraid_core.specs.Steps.{AreUnsyncedCopied, OnlyPowersDisks}

-- each disk of the array that is not out has the size of the array
abbrev pub AreAllLarge : (ℕ → Slot) → Meta → Type 0
AreAllLarge slot m = (d : ℕ) → d < m.setup.geometry.disks
    → named_out m.out ≢ Some d → disk_size m.setup.geometry ≤ (slot d).size

-- Over every rack: the core can be read and written, no plan is under way, and each copy is synced.
pub record IsCoreServing
    {R : Type 0} {g : _} (count : R → ℕ) (slot : R → ℕ → Slot) (core : Core R g) : Type 0 where
  pub ready : IsCoreReady count slot core
  pub serves : CanCoreServe slot core
  pub draft : core.draft ≡ []
  pub copies_synced : AreCopiesSynced core.meta.setup.geometry.disks core.copied
  pub unsynced : AreUnsyncedCopied slot core
  pub large : AreAllLarge (slot (store_rack core.store)) core.meta

-- What a call leaves beside that: the array, how its meta is spelled and the number of its writes
-- are as they were, and a disk that is down was so before, or has failed.
pub record LeavesArray
    {R : Type 0} {g : _} (count : R → ℕ) (slot : R → ℕ → Slot) (old new : Core R g) : Type 0 where
  pub slots : count (store_rack new.store) ≡ count (store_rack old.store)
  pub setup : new.meta.setup ≡ old.meta.setup
  pub version : new.meta.version ≡ old.meta.version
  pub writes : new.meta.writes ≡ old.meta.writes
  pub turned : OnlyPowersDisks (slot (store_rack old.store)) (slot (store_rack new.store))
  pub down : IsDownAfter
      (core_down old) (core_down new) (slot (store_rack old.store)) (slot (store_rack new.store))

-- Slots that fit the meta before fit it still.
abbrev pub KeepsFit : {R : Type 0} {g : _} → (R → ℕ → Slot) → Core R g → Core R g → Type 0
KeepsFit slot old new = FitsSlots (slot (store_rack old.store)) old.meta
    → FitsSlots (slot (store_rack new.store)) new.meta

-- The core stands for these writes, and the shift that is under way, or none, is that of the last
-- commit.
abbrev pub StandsInShift : {R : Type 0} {g : _} → (R → ℕ) → Core R g → History → ℕ → Disks → Type 0
StandsInShift count core h lo = CellsCopied count core h lo (λ r d. false)

-- the same, with nothing staged
abbrev pub RestsInShift : {R : Type 0} {g : _} → (R → ℕ) → Core R g → History → ℕ → Disks → Type 0
RestsInShift count core h lo = Filled count core h lo core.meta.fill

-- Nothing is staged before and after, the shift is that of the last commit, and the writes are as
-- they were.
abbrev pub StaysAtRest : {R : Type 0} {g : _}
    → (R → ℕ) → (R → Option Trail) → Core R g → Core R g → Type 0
StaysAtRest count told old new = (h : History) (lo : ℕ) → Ran (told (store_rack old.store))
    (told (store_rack new.store)) (CrashTriple (IsCoreHeldSinceCommit count old h lo)
    (RestsInShift count old h lo) (RestsInShift count new h lo))

-- From such a rest on the writes are as they were.
abbrev pub StandsFromRest : {R : Type 0} {g : _}
    → (R → ℕ) → (R → Option Trail) → Core R g → Core R g → Type 0
StandsFromRest count told old new = (h : History) (lo : ℕ) → Ran (told (store_rack old.store))
    (told (store_rack new.store)) (CrashTriple (IsCoreHeldSinceCommit count old h lo)
    (RestsInShift count old h lo) (CoreStandsFor count new h lo))

-- Each stop leaves what it left before, from such a rest on.
abbrev pub IsHeldFromRest : {R : Type 0} {g : _}
    → (R → ℕ) → (R → Option Trail) → Core R g → Core R g → Type 0
IsHeldFromRest count told old new = (h : History) (lo : ℕ) → Ran (told (store_rack old.store))
    (told (store_rack new.store)) (CrashTriple (IsCoreHeldSinceCommit count old h lo)
    (RestsInShift count old h lo) (IsCoreHeldSinceCommit count old h lo))

-- the same from a core that may have something staged
abbrev pub IsHeldInShift : {R : Type 0} {g : _}
    → (R → ℕ) → (R → Option Trail) → Core R g → Core R g → Type 0
IsHeldInShift count told old new = (h : History) (lo : ℕ) → Ran (told (store_rack old.store))
    (told (store_rack new.store)) (CrashTriple (IsCoreHeldSinceCommit count old h lo)
    (StandsInShift count old h lo) (IsCoreHeldSinceCommit count old h lo))
