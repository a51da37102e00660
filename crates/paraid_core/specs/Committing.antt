-- What a commit of a core leaves.
use Rattle.std.specs.Prelude.{◌≡◌, ℕ, ◌+◌, Some, Result, OnOk, length}
use Rattle.paraid_base.specs.declared.fault.Two.{Two}
use Rattle.paraid_base.specs.History.{History}
use Rattle.paraid_rack.specs.declared.rack.Rack.{Ghosts}
use Rattle.paraid_rack.specs.Told.{CrashTriple, Ran}
use Rattle.paraid_image.specs.Out.{named_out}
use Rattle.paraid_txn.specs.Stores.{named_of, store_rack}
use Rattle.paraid_core.specs.declared.staged.Core.{Core}
use Rattle.paraid_core.specs.Calls.{CommitsWhole, MakesTransferCalls, RestsCommitted}
use Rattle.paraid_core.specs.Cores.{CoreStandsFor, IsCoreHeld, IsCoreHeldSinceCommit}
use Rattle.paraid_core.specs.Fills.{Filled}
use Rattle.paraid_core.specs.Replaced.{CoreCommitted}
use Rattle.paraid_core.specs.Serving.{StaysHeld}
use Rattle.paraid_core.specs.Steps.{IsHeldStill, IsMarkedFrom, IsNamedOrAbsent}

-- The meta is that of the next epoch, with the marks of a disk that was lost, if one was. The store
-- names the disk that it named out.
pub record CommitsMeta
    {R A : Type 0} {g : Ghosts R} (old new : Core R g) (result : Result A Two) : Type 0 where
  pub meta : OnOk result (IsMarkedFrom (record old.meta { epoch = old.meta.epoch + 1 }) new.meta)
  pub epoch : OnOk result (new.meta.epoch ≡ old.meta.epoch + 1)
  pub named : OnOk result (named_of new.store ≡ named_out old.meta.out)
  -- Where a disk was out by the last commit, no other one is out after this one, also where it
  -- comes back.
  pub alone : OnOk result ((x d : ℕ)
      → named_of old.store ≡ Some x → named_out new.meta.out ≡ Some d → x ≡ d)
  pub absent : OnOk result (IsNamedOrAbsent g.slot new)

-- Its calls bring what is staged, whole or not at all.
pub record CommitsStaged
    {R A : Type 0} {g : Ghosts R} (old new : Core R g) (result : Result A Two) : Type 0 where
  pub calls : MakesTransferCalls g.told old new
  pub whole : CommitsWhole g.slot_count g.told old new
  pub rest : OnOk result (RestsCommitted g.slot_count g.told old new)

-- Each stop leaves what it left before or all writes, and at the end all writes, with nothing
-- staged.
pub record StandsCommitted
    {R A : Type 0} {g : Ghosts R} (old new : Core R g) (result : Result A Two) : Type 0 where
  pub moments : StaysHeld g.slot_count g.told old new
  pub stands : OnOk result ((h : History) (lo : ℕ) → Ran (g.told (store_rack old.store))
      (g.told (store_rack new.store)) (CrashTriple (IsCoreHeld g.slot_count old h lo)
      (CoreStandsFor g.slot_count old h lo) (CoreStandsFor g.slot_count new h (length h))))
  pub filled : OnOk result ((h : History) (lo : ℕ) → Ran (g.told (store_rack old.store))
      (g.told (store_rack new.store)) (CrashTriple (IsCoreHeld g.slot_count old h lo)
      (CoreStandsFor g.slot_count old h lo) (Filled g.slot_count new h (length h) new.meta.fill)))

-- The same where a disk that was lost since the last commit is absent: it takes nothing away. What
-- the meta says of the disk that is out is on the disks.
pub record StandsSinceCommit
    {R A : Type 0} {g : Ghosts R} (old new : Core R g) (result : Result A Two) : Type 0 where
  pub moments_since : IsNamedOrAbsent g.slot old → IsHeldStill g.slot_count g.told old new
  pub since : OnOk result (IsNamedOrAbsent g.slot old
      → (h : History) (lo : ℕ) → Ran (g.told (store_rack old.store))
      (g.told (store_rack new.store)) (CrashTriple (IsCoreHeldSinceCommit g.slot_count old h lo)
      (CoreStandsFor g.slot_count old h lo) (CoreStandsFor g.slot_count new h (length h))))
  pub filled_since : OnOk result (IsNamedOrAbsent g.slot old
      → (h : History) (lo : ℕ) → Ran (g.told (store_rack old.store))
      (g.told (store_rack new.store)) (CrashTriple (IsCoreHeldSinceCommit g.slot_count old h lo)
      (CoreStandsFor g.slot_count old h lo) (Filled g.slot_count new h (length h) new.meta.fill)))
  pub committed : OnOk result (IsNamedOrAbsent g.slot old → (h : History) (lo : ℕ)
      → Ran (g.told (store_rack old.store)) (g.told (store_rack new.store)) (CrashTriple
      (IsCoreHeldSinceCommit g.slot_count old h lo) (CoreStandsFor g.slot_count old h lo)
      (CoreCommitted g.slot_count new h (length h) old.meta.out)))
