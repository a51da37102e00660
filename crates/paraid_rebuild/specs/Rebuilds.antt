-- What the calls of a rebuild ask of a core, and what they leave of it.
use Rattle.std.specs.Prelude.{◌≡◌, ℕ, ◌+◌, ◌≤◌, true, List, [], Bool, Option, Some, Ok, Result, OnOk, IfErr}
use Rattle.paraid_base.specs.declared.fault.Two.{Two}
use Rattle.paraid_base.specs.History.{History}
use Rattle.paraid_base.specs.Regions.{disk_size}
use Rattle.paraid_base.specs.Told.{HasRisen}
use Rattle.paraid_rack.specs.declared.call.Power.TheVariants.{Absent, Spinning}
use Rattle.paraid_rack.specs.declared.rack.Rack.{Ghosts}
use Rattle.paraid_rack.specs.Told.{Ran}
use Rattle.paraid_record.specs.declared.meta.Meta.{Meta}
use Rattle.paraid_image.specs.Mark.{meta_after_loss}
use Rattle.paraid_txn.specs.Losses.{AreTwoDown, OnlyLosesSlots}
use Rattle.paraid_txn.specs.Stores.{named_of, store_rack}
use Rattle.paraid_core.specs.declared.staged.Core.{Core}
use Rattle.paraid_core.specs.Cores.{core_down}
use Rattle.paraid_core.specs.Steps.{IsNamedOrAbsent}
use Rattle.paraid_core.specs.Units.{IsRebuilding}
use Rattle.paraid_event.specs.Service.{service_of}
use Rattle.paraid_event.specs.Steps.{LosesInSteps, StepsInEvent}
use Rattle.paraid_session.specs.Faults.{HaveNotFallen}
use Rattle.paraid_event.specs.CoreServing.{IsCoreServing, IsHeldFromRest, StandsFromRest, StaysAtRest}

-- A rebuild of disk `disk` can go on: the core serves, the last commit names the disk out, and it
-- spins.
pub record CanRebuild {R : Type 0} {g : Ghosts R} (core : Core R g) (disk : ℕ) : Type 0 where
  pub serving : IsCoreServing g.slot_count g.slot core
  pub fresh : IsRebuilding core.meta disk
  pub named : named_of core.store ≡ Some disk
  pub spins : (g.slot (store_rack core.store) disk).power ≡ Spinning

-- The core serves after a commit, with nothing staged; this disk is out by the commit, or none.
pub record HasCommitted
    {R : Type 0} {g : Ghosts R} (core : Core R g) (out : Option ℕ) : Type 0 where
  pub serving : IsCoreServing g.slot_count g.slot core
  pub nothing : core.batch ≡ []
  pub absent : IsNamedOrAbsent g.slot core
  pub named : named_of core.store ≡ out

-- The core serves on, no earlier and at most so many commits later, with nothing staged and the
-- dirty table as it was.
pub record ServesLater {R : Type 0} {g : Ghosts R} (old new : Core R g) (commits : ℕ) : Type 0 where
  pub serving : IsCoreServing g.slot_count g.slot new
  pub nothing : new.batch ≡ []
  pub later : old.meta.epoch ≤ new.meta.epoch
  pub few : new.meta.epoch ≤ old.meta.epoch + commits
  pub table : new.dirty ≡ old.dirty

-- Disk `disk` spins, and the meta is this one.
pub record KeepsDisk
    {R : Type 0} {g : Ghosts R} (core : Core R g) (disk : ℕ) (m : Meta) : Type 0 where
  pub meta : core.meta ≡ m
  pub spins : (g.slot (store_rack core.store) disk).power ≡ Spinning

-- Disk `disk` has failed in a call, is absent, and is gone by the meta, which has this epoch.
pub record LosesAgain
    {R : Type 0} {g : Ghosts R} (old new : Core R g) (disk epoch : ℕ) : Type 0 where
  pub gone : new.meta ≡ record (meta_after_loss old.meta disk) { epoch = epoch }
  pub failed : HasRisen
      (g.slot (store_rack old.store) disk).faults (g.slot (store_rack new.store) disk).faults
  pub away : (g.slot (store_rack new.store) disk).power ≡ Absent

-- A fresh disk is there: the meta says so in this way, the disk spins, and it has the size of the
-- array.
pub record HasFreshDisk
    {R : Type 0} {g : Ghosts R} (old new : Core R g) (disk : ℕ) (SaysFresh : Type 0) : Type 0 where
  pub fresh : SaysFresh
  pub spins : (g.slot (store_rack new.store) disk).power ≡ Spinning
  pub size : (g.slot (store_rack new.store) disk).size ≡ disk_size old.meta.setup.geometry

-- No fresh disk is there: the meta says so in this way, and the slot has failed.
pub record LacksFreshDisk
    {R : Type 0} {g : Ghosts R} (old new : Core R g) (disk : ℕ) (SaysGone : Type 0) : Type 0 where
  pub gone : SaysGone
  pub risen : HasRisen
      (g.slot (store_rack old.store) disk).faults (g.slot (store_rack new.store) disk).faults

-- Whatever is answered, the rack has its slots, of which some may be lost; two are down where that
-- is the answer.
pub record SparesSlots
    {R A : Type 0} {g : Ghosts R} (old new : Core R g) (result : Result A Two) : Type 0 where
  pub slots : g.slot_count (store_rack new.store) ≡ g.slot_count (store_rack old.store)
  pub spared : OnlyLosesSlots (g.slot (store_rack old.store)) (g.slot (store_rack new.store))
  pub two : IfErr result
      (AreTwoDown (core_down old) (g.slot (store_rack old.store)) (g.slot (store_rack new.store)))

-- The same where a disk may be replaced by a fresh one: no count of faults has fallen.
pub record KeepsCounts
    {R A : Type 0} {g : Ghosts R} (old new : Core R g) (result : Result A Two) : Type 0 where
  pub slots : g.slot_count (store_rack new.store) ≡ g.slot_count (store_rack old.store)
  pub later : HaveNotFallen (g.slot (store_rack old.store)) (g.slot (store_rack new.store))
  pub two : IfErr result
      (AreTwoDown (core_down old) (g.slot (store_rack old.store)) (g.slot (store_rack new.store)))

-- From a rest on each stop leaves what it left before; the writes are as they were, and at rest
-- again where True is the answer.
pub record HoldsFromRest
    {R : Type 0} {g : Ghosts R} (old new : Core R g) (result : Result Bool Two) : Type 0 where
  pub moments : IsHeldFromRest g.slot_count g.told old new
  pub stands : OnOk result (StandsFromRest g.slot_count g.told old new)
  pub rests : result ≡ Ok true → StaysAtRest g.slot_count g.told old new

-- In an event it is a part with at most so many commits, also where a second disk is lost in it.
pub record IsEventPart {R A : Type 0}
    {g : Ghosts R} (old new : Core R g) (commits : ℕ) (result : Result A Two) : Type 0 where
  pub event : OnOk result ((samples : List ℕ) (served energy : ℕ) (h : History) (lo : ℕ)
      → Ran (g.told (store_rack old.store)) (g.told (store_rack new.store))
      (StepsInEvent (service_of g.slot_count old samples served energy)
      (service_of g.slot_count new samples served energy) h lo commits))
  pub loses : IfErr result (λ two. (samples : List ℕ) (served energy : ℕ) (h : History) (lo : ℕ)
      → Ran (g.told (store_rack old.store)) (g.told (store_rack new.store))
      (LosesInSteps (service_of g.slot_count old samples served energy) h lo commits two))
