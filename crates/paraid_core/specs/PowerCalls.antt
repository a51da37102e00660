-- What a park, a spin-up and an attach ask, and what they leave.
use Rattle.std.specs.Prelude.{◌≡◌, ◌≢◌, ℕ, ◌<◌, ◌≤◌, ◌⊎◌, [], Bool, true, false, Some, Result, Ok, OnOk, IfErr}
use Rattle.paraid_base.specs.declared.fault.Two.{Two}
use Rattle.paraid_base.specs.declared.state.Out.TheVariants.{Gone}
use Rattle.paraid_base.specs.History.{History}
use Rattle.paraid_base.specs.Told.{HasRisen}
use Rattle.paraid_rack.specs.declared.rack.Rack.{Ghosts}
use Rattle.paraid_rack.specs.Told.{CrashTriple, Ran}
use Rattle.paraid_image.specs.Out.{named_out}
use Rattle.paraid_txn.specs.Losses.{AreTwoDown, IsLostNow}
use Rattle.paraid_txn.specs.Stores.{IsSameStore, named_of, store_rack}
use Rattle.paraid_core.specs.declared.staged.Core.{Core}
use Rattle.paraid_core.specs.Cores.{CanCoreServe, CoreStandsFor, IsCoreHeldSinceCommit, IsCoreReady, core_down}
use Rattle.paraid_core.specs.Fills.{Filled}
use Rattle.paraid_core.specs.Lost.{CoreTellsLosses}
use Rattle.paraid_core.specs.Marking.{KeepsStaged}
use Rattle.paraid_core.specs.Steps.{AreUnsyncedCopied, IsMarkedFrom, IsNamedOrAbsent, IsStillOut, OnlyPowersDisks}

-- The power of this disk can be turned: the gear does not need it, it is not out, and nothing is
-- staged.
pub record CanChangePower {R : Type 0} {g : Ghosts R} (core : Core R g) (disk : ℕ) : Type 0 where
  pub ready : IsCoreReady g.slot_count g.slot core
  pub still : IsStillOut (named_of core.store) core.meta
  pub disk_in : disk < core.meta.setup.geometry.disks
  pub past_gear : core.meta.gear ≤ disk
  pub not_out : named_out core.meta.out ≢ Some disk
  pub nothing : core.batch ≡ []

-- No other slot changes, and what is staged is as it was.
pub record PowersDisk {R A : Type 0}
    {g : Ghosts R} (disk : ℕ) (old new : Core R g) (result : Result A Two) : Type 0 where
  pub slots : g.slot_count (store_rack new.store) ≡ g.slot_count (store_rack old.store)
  pub others : (d : ℕ)
      → d ≢ disk → g.slot (store_rack new.store) d ≡ g.slot (store_rack old.store) d
  pub turned : OnlyPowersDisks (g.slot (store_rack old.store)) (g.slot (store_rack new.store))
  pub store : IsSameStore old.store new.store
  pub staged : KeepsStaged old new
  pub ready : OnOk result (IsCoreReady g.slot_count g.slot new)
  pub unsynced : OnOk result (AreUnsyncedCopied g.slot old → AreUnsyncedCopied g.slot new)
  pub absent : OnOk result (IsNamedOrAbsent g.slot old → IsNamedOrAbsent g.slot new)

-- False where the disk was lost: it has failed and is gone. Where another one was out, two are
-- down.
pub record AnswersPowerCall {R : Type 0}
    {g : Ghosts R} (disk : ℕ) (old new : Core R g) (result : Result Bool Two) : Type 0 where
  pub meta : OnOk result (IsMarkedFrom old.meta new.meta)
  pub same : result ≡ Ok true → new.meta ≡ old.meta
  pub risen : OnOk result ((d : ℕ)
      → named_out new.meta.out ≡ Some d → (named_out old.meta.out ≡ Some d)
      ⊎ HasRisen (g.slot (store_rack old.store) d).faults (g.slot (store_rack new.store) d).faults)
  pub gone : result ≡ Ok false → new.meta.out ≡ Gone disk
  pub failed : result ≡ Ok false
      → IsLostNow (g.slot (store_rack old.store)) (g.slot (store_rack new.store)) disk
  pub two : IfErr result
      (AreTwoDown (core_down old) (g.slot (store_rack old.store)) (g.slot (store_rack new.store)))
  pub tells : IfErr result (CoreTellsLosses g.told (named_out old.meta.out) old new)

-- Each stop leaves what it left before. The writes and what is copied stay, and where the disk was
-- lost the shift is that of the last commit still.
pub record StandsPowered
    {R : Type 0} {g : Ghosts R} (old new : Core R g) (result : Result Bool Two) : Type 0 where
  pub done : result ≡ Ok true → (h : History) (lo : ℕ) → Ran (g.told (store_rack old.store))
      (g.told (store_rack new.store)) (CrashTriple (IsCoreHeldSinceCommit g.slot_count old h lo)
      (Filled g.slot_count old h lo old.meta.fill) (Filled g.slot_count new h lo old.meta.fill))
  pub lost : result ≡ Ok false → (h : History) (lo : ℕ) → Ran (g.told (store_rack old.store))
      (g.told (store_rack new.store)) (CrashTriple (IsCoreHeldSinceCommit g.slot_count old h lo)
      (CoreStandsFor g.slot_count old h lo) (CoreStandsFor g.slot_count new h lo))
  pub lost_filled : result ≡ Ok false → (h : History) (lo : ℕ) → Ran (g.told (store_rack old.store))
      (g.told (store_rack new.store)) (CrashTriple (IsCoreHeldSinceCommit g.slot_count old h lo)
      (Filled g.slot_count old h lo old.meta.fill) (Filled g.slot_count new h lo new.meta.fill))
  pub moments : (h : History) (lo : ℕ) → Ran (g.told (store_rack old.store))
      (g.told (store_rack new.store)) (CrashTriple (IsCoreHeldSinceCommit g.slot_count old h lo)
      (Filled g.slot_count old h lo old.meta.fill) (IsCoreHeldSinceCommit g.slot_count old h lo))

-- An attach of this disk, done or failed: no other slot changes, what is staged is as it was, and a
-- core that could serve still can.
pub record LeavesAttached {R : Type 0} {g : Ghosts R} (disk : ℕ) (old new : Core R g) : Type 0 where
  pub slots : g.slot_count (store_rack new.store) ≡ g.slot_count (store_rack old.store)
  pub others : (d : ℕ)
      → d ≢ disk → g.slot (store_rack new.store) d ≡ g.slot (store_rack old.store) d
  pub store : IsSameStore old.store new.store
  pub staged : KeepsStaged old new
  pub ready : IsCoreReady g.slot_count g.slot new
  pub serves : CanCoreServe g.slot old → CanCoreServe g.slot new
  pub still : IsStillOut (named_of new.store) new.meta
  pub absent : IsNamedOrAbsent g.slot new
  pub unsynced : AreUnsyncedCopied g.slot old → AreUnsyncedCopied g.slot new
