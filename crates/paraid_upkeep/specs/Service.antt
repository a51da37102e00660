-- An array in service.
use Rattle.std.specs.Prelude.{◌≡◌, ℕ, ◌≤◌, [], Option, Some}
use Rattle.paraid_rack.specs.declared.call.Power.TheVariants.{Spinning}
use Rattle.paraid_rack.specs.Slots.{Slot}
use Rattle.paraid_rack.specs.Trail.{Trail}
use Rattle.paraid_rack.specs.Told.{Extends}
use Rattle.paraid_txn.specs.Stores.{named_of, store_rack}
use Rattle.paraid_core.specs.declared.staged.Core.{Core}
use Rattle.paraid_core.specs.CoreInvariant.{AreCopiesSynced}
use Rattle.paraid_core.specs.Cores.{CanCoreServe, IsCoreReady}
use Rattle.paraid_core.specs.Steps.{IsNamedOrAbsent}
use Rattle.paraid_core.specs.Units.{IsRebuilding}
use Rattle.paraid_event.specs.CoreServing.{AreAllLarge, IsCoreServing, KeepsFit, LeavesArray}

-- Over every rack: the core can be read and written, no plan is under way, each copy is synced, and
-- each disk that is not out has the size of the array.
pub record IsInService
    {R : Type 0} {g : _} (count : R → ℕ) (slot : R → ℕ → Slot) (core : Core R g) : Type 0 where
  pub ready : IsCoreReady count slot core
  pub serves : CanCoreServe slot core
  pub draft : core.draft ≡ []
  pub copies_synced : AreCopiesSynced core.meta.setup.geometry.disks core.copied
  pub large : AreAllLarge (slot (store_rack core.store)) core.meta

-- The disk that is out is named by the last commit, or absent; one that is being rebuilt is named,
-- and spins.
pub record IsOutKnown {R : Type 0} {g : _} (slot : R → ℕ → Slot) (core : Core R g) : Type 0 where
  pub absent : IsNamedOrAbsent slot core
  pub named : (d : ℕ) → IsRebuilding core.meta d → named_of core.store ≡ Some d
  pub spins : (d : ℕ) → IsRebuilding core.meta d → (slot (store_rack core.store) d).power ≡ Spinning

-- What a part of an event leaves that was done: the core serves, the array is as it was, the disk
-- that is out is known, and the slots fit the meta still.
pub record LeavesInService
    {R : Type 0} {g : _} (count : R → ℕ) (slot : R → ℕ → Slot) (old new : Core R g) : Type 0 where
  pub serving : IsCoreServing count slot new
  pub leaves : LeavesArray count slot old new
  pub known : IsOutKnown slot new
  pub fits : KeepsFit slot old new

-- A shift that is asked for leaves the core able to serve and the array as it was. The disk that is
-- out is known if it was before, and the slots fit the meta still.
pub record StaysServing
    {R : Type 0} {g : _} (count : R → ℕ) (slot : R → ℕ → Slot) (old new : Core R g) : Type 0 where
  pub serving : IsCoreServing count slot new
  pub leaves : LeavesArray count slot old new
  pub known : IsOutKnown slot old → IsOutKnown slot new
  pub fits : KeepsFit slot old new

-- What each call keeps, whether it was done or not: the rack has as many slots, no count of faults
-- falls, and what is told is longer by the calls.
pub record MakesCalls {R : Type 0} {g : _} (count : R → ℕ)
    (slot : R → ℕ → Slot) (told : R → Option Trail) (old new : Core R g) : Type 0 where
  pub slots : count (store_rack new.store) ≡ count (store_rack old.store)
  pub no_fall : (d : ℕ)
      → (slot (store_rack old.store) d).faults ≤ (slot (store_rack new.store) d).faults
  pub grows : Extends (told (store_rack old.store)) (told (store_rack new.store))
