-- What a call of a core in a shift leaves where it succeeds, and what it tells where a second disk
-- is lost.
use Rattle.std.specs.Prelude.{◌≡◌, ◌≢◌, ℕ, ◌+◌, ◌<◌, ◌≤◌, ◌⊎◌, Bool, true, false, [], Option}
use Rattle.paraid_base.specs.declared.fault.Two.{Two}
use Rattle.paraid_base.specs.declared.state.Out.TheVariants.{No}
use Rattle.paraid_base.specs.declared.state.Phase.TheVariants.{Steady}
use Rattle.paraid_base.specs.History.{History}
use Rattle.paraid_base.specs.States.{phase_to}
use Rattle.paraid_rack.specs.Slots.{Slot}
use Rattle.paraid_rack.specs.Told.{CrashTriple, Ran}
use Rattle.paraid_rack.specs.Trail.{Trail}
use Rattle.paraid_moves.specs.MoveMetas.{filled_to, meta_flipped_to}
use Rattle.paraid_txn.specs.Stores.{named_of, store_rack}
use Rattle.paraid_core.specs.declared.staged.Core.{Core}
use Rattle.paraid_core.specs.Cores.{CoreStandsFor, IsCoreHeldSinceCommit}
use Rattle.paraid_core.specs.Steps.{IsMarkedFrom, IsNamedOrAbsent}
use Rattle.paraid_shift.specs.Losing.{CoreBearsLoss}
use Rattle.paraid_event.specs.CoreServing.{IsCoreServing, KeepsFit, LeavesArray, RestsInShift, StaysAtRest}
use Rattle.paraid_shift.specs.Rising.{HasBegunUp, IsComingUp}
use Rattle.paraid_shift.specs.Steps.{CommitsMark, CoreLosesInEvent, CoreLosesInSteps, CoreServesMarked, CoreStepsInEvent, CoreStepsToMark, MarksPowered, OpensUp}
use Rattle.paraid_shift.specs.Units.{AreCellsDone, AreUnitsDone, CoreCountsMoved}

-- The core serves as it did, at most so many commits later; the epoch has not fallen, and the slots
-- fit the meta still.
pub record ServesOn {R : Type 0}
    {g : _} (count : R → ℕ) (slot : R → ℕ → Slot) (old new : Core R g) (commits : ℕ) : Type 0 where
  pub serving : IsCoreServing count slot new
  pub leaves : LeavesArray count slot old new
  pub absent : IsNamedOrAbsent slot old → IsNamedOrAbsent slot new
  pub fits : KeepsFit slot old new
  pub later : old.meta.epoch ≤ new.meta.epoch
  pub epoch : new.meta.epoch ≤ old.meta.epoch + commits

-- So after a call that moved these of at most so many units, with what is `Moved`, and what is
-- `Told` of it.
pub record StepsOn {R : Type 0} {g : _} (count : R → ℕ) (slot : R → ℕ → Slot)
    (old new : Core R g) (most commits units : ℕ) (Moved Told : Type 0) : Type 0 where
  pub serves : ServesOn count slot old new commits
  pub few : units ≤ most
  pub moves : Moved
  pub steps : Told

-- So many cells were moved. Where none was, and no disk is out, none was asked for, or none is
-- left. Marks are staged only where no unit of the shift is left.
pub record MovesGroup
    {R : Type 0} {g : _} (count : R → ℕ) (old new : Core R g) (most units : ℕ) : Type 0 where
  pub moves : CoreCountsMoved count old new units
  pub all : units ≡ 0 → new.meta.out ≡ No → (most ≡ 0) ⊎ AreCellsDone new.meta new.dirty
  pub ended : new.batch ≢ [] → AreUnitsDone new.meta new.dirty

-- A group of so many cells, of at most `most`, is copied and made to last, with its marks staged;
-- none where a disk was lost in it.
pub record MarksGroup {R : Type 0} {g : _} (count : R → ℕ) (slot : R → ℕ → Slot)
    (told : R → Option Trail) (old new : Core R g) (most units : ℕ) : Type 0 where
  pub serving : IsCoreServing count slot new
  pub leaves : LeavesArray count slot old new
  pub absent : IsNamedOrAbsent slot old → IsNamedOrAbsent slot new
  pub meta : IsMarkedFrom old.meta new.meta
  pub few : units ≤ most
  pub moves : CoreCountsMoved count old new units
  pub whole : 0 < units → new.meta.out ≡ No
  pub idle : units ≡ 0 → new.batch ≡ []
  pub all : units ≡ 0 → new.meta.out ≡ No → (most ≡ 0) ⊎ AreCellsDone new.meta new.dirty
  pub steps : CoreStepsInEvent count told old new 0

-- The stripes before `end` are copied and made to last, with their mark staged, or a disk was lost
-- in it.
pub record MarksStripes {R : Type 0} {g : _} (count : R → ℕ) (slot : R → ℕ → Slot)
    (told : R → Option Trail) (old new : Core R g) (end : ℕ) (done : Bool) : Type 0 where
  pub serving : IsCoreServing count slot new
  pub leaves : LeavesArray count slot old new
  pub absent : IsNamedOrAbsent slot old → IsNamedOrAbsent slot new
  pub nothing : new.batch ≡ []
  pub table : new.dirty ≡ old.dirty
  pub filled : done ≡ true → new.meta ≡ filled_to old.meta end
  pub waits : done ≡ true → CoreStepsToMark count told old new new.meta 0
  pub lost : done ≡ false → IsMarkedFrom old.meta new.meta
  pub gone : done ≡ false → new.meta.out ≢ No
  pub steps : done ≡ false → CoreStepsInEvent count told old new 0

-- What is staged is committed in an event: a disk may be lost in it, and no unit is moved.
pub record CommitsInEvent {R : Type 0} {g : _} (count : R → ℕ)
    (slot : R → ℕ → Slot) (told : R → Option Trail) (old new : Core R g) : Type 0 where
  pub serving : IsCoreServing count slot new
  pub leaves : LeavesArray count slot old new
  pub nothing : new.batch ≡ []
  pub absent : IsNamedOrAbsent slot new
  pub epoch : new.meta.epoch ≡ old.meta.epoch + 1
  pub meta : IsMarkedFrom (record old.meta { epoch = old.meta.epoch + 1 }) new.meta
  pub moves : old.meta.out ≡ No → CoreCountsMoved count old new 0
  pub steps : IsNamedOrAbsent slot old → CoreStepsInEvent count told old new 1
  pub marked : IsNamedOrAbsent slot old → CoreServesMarked count told old new

-- A second disk is lost in a commit, wherever the disk that was lost before is absent: it is so
-- told, and what is told of marks that the commit was to bring.
pub record LosesInCommit {R : Type 0} {g : _} (count : R → ℕ)
    (slot : R → ℕ → Slot) (told : R → Option Trail) (old new : Core R g) (two : Two) : Type 0 where
  pub loses : IsNamedOrAbsent slot old → CoreLosesInSteps count told old new 1 two
  pub marked : IsNamedOrAbsent slot old → CoreLosesInEvent count told old new two

-- Disks were powered with nothing staged: one that was lost in it is marked, and the rest is as it
-- was.
pub record PowersDisks {R : Type 0} {g : _} (count : R → ℕ)
    (slot : R → ℕ → Slot) (told : R → Option Trail) (old new : Core R g) : Type 0 where
  pub leaves : LeavesArray count slot old new
  pub absent : IsNamedOrAbsent slot old → IsNamedOrAbsent slot new
  pub meta : IsMarkedFrom old.meta new.meta
  pub lost : MarksPowered (slot (store_rack new.store)) old.meta new.meta
  pub bears : CoreBearsLoss told old new
  pub rests : StaysAtRest count told old new

-- A shift up has begun, by a commit, and the disks that it needs have still to come up.
pub record CommitsUp {R : Type 0} {g : _} (count : R → ℕ)
    (slot : R → ℕ → Slot) (told : R → Option Trail) (old new : Core R g) (to : ℕ) : Type 0 where
  pub rising : IsComingUp count slot new new.meta.gear
  pub absent : IsNamedOrAbsent slot new
  pub leaves : LeavesArray count slot old new
  pub meta : HasBegunUp old.meta new.meta to
  pub named : named_of new.store ≡ named_of old.store
  pub opens : OpensUp count told old new to
  pub nothing : new.batch ≡ []
  pub epoch : new.meta.epoch ≡ old.meta.epoch + 1
  pub rests : (h : History) (lo : ℕ) → Ran (told (store_rack old.store))
      (told (store_rack new.store)) (CrashTriple (IsCoreHeldSinceCommit count old h lo)
      (CoreStandsFor count old h lo) (RestsInShift count new h lo))

-- A shift has ended, by a commit, and the disks that the new gear does not need have still to be
-- parked.
pub record CommitsGear {R : Type 0} {g : _} (count : R → ℕ)
    (slot : R → ℕ → Slot) (told : R → Option Trail) (old new : Core R g) : Type 0 where
  pub serving : IsCoreServing count slot new
  pub nothing : new.batch ≡ []
  pub absent : IsNamedOrAbsent slot new
  pub leaves : LeavesArray count slot old new
  pub steady : new.meta.phase ≡ Steady
  pub meta : IsMarkedFrom (record
      (meta_flipped_to old.meta (phase_to old.meta.phase)) { epoch = old.meta.epoch + 1 }) new.meta
  pub named : named_of new.store ≡ named_of old.store
  pub opens : CommitsMark count told old new (meta_flipped_to old.meta (phase_to old.meta.phase))
  pub epoch : new.meta.epoch ≡ old.meta.epoch + 1
  pub rests : (h : History) (lo : ℕ) → Ran (told (store_rack old.store))
      (told (store_rack new.store)) (CrashTriple (IsCoreHeldSinceCommit count old h lo)
      (CoreStandsFor count old h lo) (RestsInShift count new h lo))
