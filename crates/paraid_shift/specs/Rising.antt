-- A shift up: it has begun, its disks come up, and cells are copied to them.
use Rattle.std.specs.Prelude.{◌≡◌, ◌≢◌, ℕ, ◌+◌, ◌<◌, ◌≤◌, ◌⊎◌, Bool, List, [], Option, Some, slice_index}
use Rattle.paraid_base.specs.declared.state.Phase.TheVariants.{Up}
use Rattle.paraid_base.specs.History.{History}
use Rattle.paraid_moves.specs.MoveMetas.{meta_after_begin}
use Rattle.paraid_rack.specs.declared.call.Power.TheVariants.{Spinning}
use Rattle.paraid_rack.specs.Slots.{Slot}
use Rattle.paraid_rack.specs.Told.{CrashTriple, Ran}
use Rattle.paraid_rack.specs.Trail.{Trail}
use Rattle.paraid_record.specs.declared.meta.Meta.{Meta}
use Rattle.paraid_image.specs.Out.{named_out}
use Rattle.paraid_txn.specs.Stores.{named_of, store_rack}
use Rattle.paraid_core.specs.declared.staged.Core.{Core}
use Rattle.paraid_core.specs.CellCopies.{CellsCopied}
use Rattle.paraid_core.specs.CoreInvariant.{AreCopiesSynced}
use Rattle.paraid_core.specs.Cores.{IsCoreHeldSinceCommit, IsCoreReady}
use Rattle.paraid_core.specs.Steps.{AreUnsyncedCopied, IsMarkedFrom, IsStillOut}
use Rattle.paraid_event.specs.CoreServing.{AreAllLarge, RestsInShift}

-- A shift up to gear `to` has begun, by a commit, with a spin-up counted for each disk that comes
-- up; a disk may be lost in it.
pub record HasBegunUp (old new : Meta) (to : ℕ) : Type 0 where
  pub spins : List ℕ
  pub is : IsMarkedFrom (record (meta_after_begin old (Up to) spins) { epoch = old.epoch + 1 }) new
  pub raised : (d : ℕ) → old.gear ≤ d → d < to → slice_index spins d ≡ slice_index old.spins d + 1
  pub others : (d : ℕ) → (d < old.gear) ⊎ (to ≤ d) → slice_index spins d ≡ slice_index old.spins d

-- As `IsCoreServing`, with nothing staged, while the disks below `end` have come up in a shift up.
pub record IsComingUp {R : Type 0}
    {g : _} (count : R → ℕ) (slot : R → ℕ → Slot) (core : Core R g) (end : ℕ) : Type 0 where
  pub ready : IsCoreReady count slot core
  pub still : IsStillOut (named_of core.store) core.meta
  pub up : (d : ℕ) → d < end
      → named_out core.meta.out ≢ Some d → (slot (store_rack core.store) d).power ≡ Spinning
  pub draft : core.draft ≡ []
  pub copies_synced : AreCopiesSynced core.meta.setup.geometry.disks core.copied
  pub unsynced : AreUnsyncedCopied slot core
  pub large : AreAllLarge (slot (store_rack core.store)) core.meta
  pub nothing : core.batch ≡ []

-- From a rest on (`RestsInShift`) these cells are copied.
abbrev pub CopiesFromRest : {R : Type 0} {g : _}
    → (R → ℕ) → (R → Option Trail) → Core R g → Core R g → (ℕ → ℕ → Bool) → Type 0
CopiesFromRest count told old new cells = (h : History) (lo : ℕ) → Ran (told (store_rack old.store))
    (told (store_rack new.store)) (CrashTriple (IsCoreHeldSinceCommit count old h lo)
    (RestsInShift count old h lo) (CellsCopied count new h lo cells))

-- These cells are copied still.
abbrev pub KeepsCopied : {R : Type 0} {g : _}
    → (R → ℕ) → (R → Option Trail) → Core R g → Core R g → (ℕ → ℕ → Bool) → Type 0
KeepsCopied count told old new cells = (h : History) (lo : ℕ) → Ran (told (store_rack old.store))
    (told (store_rack new.store)) (CrashTriple (IsCoreHeldSinceCommit count old h lo)
    (CellsCopied count old h lo cells) (CellsCopied count new h lo cells))
