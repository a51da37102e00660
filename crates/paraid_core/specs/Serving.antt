-- A core that can be read and written, and what a read or a write leaves of it.
use Rattle.std.specs.Prelude.{◌≡◌, ℕ, ◌+◌, ◌^◌, ◌<◌, Bool, true, false, Option, Result, OnOk, if◌then◌else◌}
use Rattle.paraid_base.specs.declared.fault.Two.{Two}
use Rattle.paraid_base.specs.History.{History}
use Rattle.paraid_rack.specs.declared.rack.Rack.{Ghosts}
use Rattle.paraid_rack.specs.Told.{CrashTriple, Ran}
use Rattle.paraid_rack.specs.Trail.{Trail}
use Rattle.paraid_image.specs.Out.{named_out}
use Rattle.paraid_txn.specs.Losses.{StaySynced}
use Rattle.paraid_txn.specs.Stores.{named_of, store_rack}
use Rattle.paraid_core.specs.declared.staged.Core.{Core}
use Rattle.paraid_core.specs.Answers.{AnswersCoreLosses}
use Rattle.paraid_core.specs.Calls.{CommitsWhole, MakesDataCalls, MakesTransferCalls, RestsCommitted}
use Rattle.paraid_core.specs.Cleaning.{is_cleaned}
use Rattle.paraid_core.specs.CoreInvariant.{AreCopiesSynced}
use Rattle.paraid_core.specs.Cores.{CanCoreServe, CoreStandsFor, IsCoreHeld, IsCoreReady, core_down}
use Rattle.paraid_core.specs.Down.{IsDownAfter}
use Rattle.paraid_core.specs.Lost.{MakesReads}
use Rattle.paraid_core.specs.Steps.{AreUnsyncedCopied, IsHeldStill, StandsStill}
use Rattle.paraid_base.specs.Log.{epoch_limit}

-- It can be used, and cells can be read and written.
pub record IsCoreInService {R : Type 0} {g : Ghosts R} (core : Core R g) : Type 0 where
  pub ready : IsCoreReady g.slot_count g.slot core
  pub serves : CanCoreServe g.slot core

-- A commit can follow: an epoch is left, and each copy is synced.
pub record CanBeCommitted {R : Type 0} {g : Ghosts R} (core : Core R g) : Type 0 where
  pub epoch : core.meta.epoch < epoch_limit
  pub copies_synced : AreCopiesSynced core.meta.setup.geometry.disks core.copied

-- It can be used still, its array is as it was, and copies may be unsynced on the same disks. A
-- disk that is down was so before, or has failed.
pub record StaysReady {R A : Type 0}
    {g : Ghosts R} (out : Option ℕ) (old new : Core R g) (result : Result A Two) : Type 0 where
  pub losses : AnswersCoreLosses out old new result
  pub copied : new.copied ≡ old.copied
  pub ready : OnOk result (IsCoreReady g.slot_count g.slot new)
  pub setup : OnOk result (new.meta.setup ≡ old.meta.setup)
  pub down : OnOk result (IsDownAfter (core_down old)
      (core_down new) (g.slot (store_rack old.store)) (g.slot (store_rack new.store)))

-- No cell is written: dirty cells, draft and number of writes are as they were, and no read would
-- clean a cell that none would have cleaned before.
pub record KeepsCells
    {R A : Type 0} {g : Ghosts R} (old new : Core R g) (result : Result A Two) : Type 0 where
  pub draft : new.draft ≡ old.draft
  pub table : new.dirty ≡ old.dirty
  pub cleans_less : OnOk result ((r d : ℕ)
      → is_cleaned old.meta old.dirty r d ≡ false → is_cleaned new.meta new.dirty r d ≡ false)
  pub writes : OnOk result (new.meta.writes ≡ old.meta.writes)

-- Each stop leaves what it left before.
abbrev pub StaysHeld : {R : Type 0} {g : _}
    → (R → ℕ) → (R → Option Trail) → Core R g → Core R g → Type 0
StaysHeld count told old new = (h : History) (lo : ℕ)
    → Ran (told (store_rack old.store)) (told (store_rack new.store)) (CrashTriple
    (IsCoreHeld count old h lo) (CoreStandsFor count old h lo) (IsCoreHeld count old h lo))

-- It makes reads alone, none on a disk that is gone, and serves on. A disk that failed since the
-- last commit takes nothing away.
pub record ReadsAlone
    {R A : Type 0} {g : Ghosts R} (old new : Core R g) (result : Result A Two) : Type 0 where
  pub stays : StaysReady (named_out old.meta.out) old new result
  pub serves : OnOk result (CanCoreServe g.slot new)
  pub epoch : OnOk result (new.meta.epoch ≡ old.meta.epoch)
  pub named : named_of new.store ≡ named_of old.store
  pub still_synced : StaySynced (g.slot (store_rack old.store)) (g.slot (store_rack new.store))
  pub calls : MakesDataCalls g.told old new
  pub reads : MakesReads g.told old new
  pub moments_since : IsHeldStill g.slot_count g.told old new

-- The same, and nothing is staged: the writes are as they were.
pub record StagesNothing
    {R A : Type 0} {g : Ghosts R} (old new : Core R g) (result : Result A Two) : Type 0 where
  pub alone : ReadsAlone old new result
  pub cells : KeepsCells old new result
  pub batch : new.batch ≡ old.batch
  pub moments : StaysHeld g.slot_count g.told old new
  pub stands : OnOk result ((h : History) (lo : ℕ) → Ran (g.told (store_rack old.store))
      (g.told (store_rack new.store)) (CrashTriple (IsCoreHeld g.slot_count old h lo)
      (CoreStandsFor g.slot_count old h lo) (CoreStandsFor g.slot_count new h lo)))
  pub since : OnOk result (StandsStill g.slot_count g.told old new)

-- It commits first where `first` says so, else it writes nothing in the log; and it serves on.
pub record MayCommit {R A : Type 0}
    {g : Ghosts R} (first : Bool) (old new : Core R g) (result : Result A Two) : Type 0 where
  pub stays : StaysReady (named_out old.meta.out) old new result
  pub serves : OnOk result (CanCoreServe g.slot new)
  pub epoch : OnOk result (new.meta.epoch ≡ old.meta.epoch + (if first then 1 else 0))
  pub names : OnOk result
      (named_of new.store ≡ (if first then named_out old.meta.out else named_of old.store))
  pub still_synced : OnOk result
      (StaySynced (g.slot (store_rack old.store)) (g.slot (store_rack new.store)))
  pub unsynced : OnOk result (AreUnsyncedCopied g.slot old → AreUnsyncedCopied g.slot new)
  pub calls : MakesTransferCalls g.told old new
  pub kept : first ≡ false → MakesDataCalls g.told old new
  pub whole : first ≡ true → CommitsWhole g.slot_count g.told old new
  pub rest : OnOk result (first ≡ true → RestsCommitted g.slot_count g.told old new)
  pub moments : StaysHeld g.slot_count g.told old new
