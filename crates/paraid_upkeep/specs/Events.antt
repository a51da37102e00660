-- What the events of an array ask of a core, and what they leave of it.
use Rattle.std.specs.Prelude.{◌≡◌, ◌≢◌, ℕ, ◌+◌, ◌<◌, ◌≤◌, List, Ok, Option, Some, None, Result, IfOk, IfSome}
use Rattle.paraid_base.specs.declared.fault.Two.{Two}
use Rattle.paraid_base.specs.declared.state.Out.TheVariants.{Fresh, Gone, No}
use Rattle.paraid_base.specs.declared.state.Phase.TheVariants.{Steady}
use Rattle.paraid_base.specs.declared.state.TickEvent.{TickEvent}
use Rattle.paraid_base.specs.declared.state.TickEvent.TheVariants.{Gone as GoneInTick}
use Rattle.paraid_base.specs.Told.{HasRisen}
use Rattle.paraid_gear.specs.Decision.{decision}
use Rattle.paraid_gear.specs.ThreeWindows.{HoldLastSamples}
use Rattle.paraid_gear.specs.declared.three_windows.Windows.{Windows}
use Rattle.paraid_rack.specs.declared.rack.Rack.{Ghosts}
use Rattle.paraid_image.specs.Mark.{meta_after_loss}
use Rattle.paraid_image.specs.Out.{named_out}
use Rattle.paraid_image.specs.Power.{PowerState}
use Rattle.paraid_machine.specs.Moves.{units_of_tick}
use Rattle.paraid_txn.specs.Stores.{named_of, store_rack}
use Rattle.paraid_core.specs.declared.staged.Core.{Core}
use Rattle.paraid_core.specs.Steps.{AreUnsyncedCopied}
use Rattle.paraid_event.specs.Service.{IsStateOf, service_of}
use Rattle.paraid_event.specs.CoreServing.{IsCoreServing, KeepsFit}
use Rattle.paraid_upkeep.specs.declared.fault.FailFault.{FailFault}
use Rattle.paraid_upkeep.specs.declared.fault.FailFault.TheVariants.{NoDisk as FailNoDisk, Out as FailOut}
use Rattle.paraid_upkeep.specs.declared.fault.ReplaceFault.{ReplaceFault}
use Rattle.paraid_upkeep.specs.declared.fault.ReplaceFault.TheVariants.{NoDisk, NotOut}
use Rattle.paraid_upkeep.specs.DiskRefusals.{IsFailRefused, IsReplaceRefused}
use Rattle.paraid_upkeep.specs.Refusals.{IsShiftStateOf}
use Rattle.paraid_upkeep.specs.Service.{IsInService, IsOutKnown}
use Rattle.paraid_upkeep.specs.TickAnswers.{CoreMoves, IsIdleTick, TellsDecision, TellsRebuild, TellsRest}

-- The core serves, and the disk that is out is known.
pub record ServesKnown {R : Type 0} {g : Ghosts R} (core : Core R g) : Type 0 where
  pub serving : IsCoreServing g.slot_count g.slot core
  pub known : IsOutKnown g.slot core

-- The array is in service still, as it was. Copies may be unsynced on the same disks, and a disk
-- that is out is known if it was before; and the slots fit the meta still.
pub record StaysInService {R : Type 0} {g : Ghosts R} (old new : Core R g) : Type 0 where
  pub service : IsInService g.slot_count g.slot new
  pub setup : new.meta.setup ≡ old.meta.setup
  pub writes : new.meta.writes ≡ old.meta.writes
  pub unsynced : AreUnsyncedCopied g.slot old → AreUnsyncedCopied g.slot new
  pub known : IsOutKnown g.slot old → IsOutKnown g.slot new
  pub fits : KeepsFit g.slot old new

-- The epoch has not fallen, and has risen by so many commits at most.
pub record CommitsAtMost {R : Type 0} {g : Ghosts R} (old new : Core R g) (most : ℕ) : Type 0 where
  pub later : old.meta.epoch ≤ new.meta.epoch
  pub few : new.meta.epoch ≤ old.meta.epoch + most

-- Disk `disk` is gone by the meta of the next commit, which has changed nothing else.
pub record CommitsGone {R : Type 0} {g : Ghosts R} (old new : Core R g) (disk : ℕ) : Type 0 where
  pub meta : new.meta ≡ record (meta_after_loss old.meta disk) { epoch = new.meta.epoch }
  pub gone : new.meta.out ≡ Gone disk
  pub epoch : new.meta.epoch ≡ old.meta.epoch + 1

-- Why a disk is not taken out. Where there is no such disk, or one is out, that is the answer, and
-- nothing has changed; where none was out, the other disk that is named has failed in the call.
pub record RefusesFail {R : Type 0} {g : Ghosts R}
    (old new : Core R g) (disk : ℕ) (result : Result (Option FailFault) Two) : Type 0 where
  pub no_disk : old.meta.setup.geometry.disks ≤ disk
      → (result ≡ Ok (Some (FailNoDisk disk))) × (new ≡ old)
  pub out : (d : ℕ) → disk < old.meta.setup.geometry.disks → named_out old.meta.out ≡ Some d
      → (result ≡ Ok (Some (FailOut d))) × (new ≡ old)
  pub refused : IfOk result (λ refusal. IfSome refusal (IsFailRefused old.meta new.meta disk))
  pub lost : IfOk result (λ refusal. (e : ℕ)
      → refusal ≡ Some (FailOut e) → named_out old.meta.out ≡ None
      → HasRisen (g.slot (store_rack old.store) e).faults (g.slot (store_rack new.store) e).faults)

-- Why a disk is not replaced. Where there is no such disk, or it is not out, that is the answer,
-- and nothing has changed; nor has it after such an answer.
pub record RefusesReplace {R : Type 0} {g : Ghosts R}
    (old new : Core R g) (disk : ℕ) (result : Result (Option ReplaceFault) Two) : Type 0 where
  pub missing : old.meta.setup.geometry.disks ≤ disk
      → (result ≡ Ok (Some (NoDisk disk))) × (new ≡ old)
  pub in_place : disk < old.meta.setup.geometry.disks → named_out old.meta.out ≢ Some disk
      → (result ≡ Ok (Some (NotOut disk))) × (new ≡ old)
  pub refused : IfOk result (λ refusal. IfSome refusal (IsReplaceRefused old.meta disk))
  pub no_disk : result ≡ Ok (Some (NoDisk disk)) → new ≡ old
  pub not_out : result ≡ Ok (Some (NotOut disk)) → new ≡ old

-- What a tick tells of a disk that is being rebuilt, with the dirty table as it was. One that is
-- told as gone has failed in the tick, and is named out by its last commit.
pub record TicksRebuild
    {R : Type 0} {g : Ghosts R} (old new : Core R g) (moved : ℕ) (event : TickEvent) : Type 0 where
  pub rebuilds : (d u : ℕ)
      → old.meta.out ≡ Fresh d u → TellsRebuild old.meta new.meta d u moved event
  pub table : (d u : ℕ) → old.meta.out ≡ Fresh d u → new.dirty ≡ old.dirty
  pub failed : (d u : ℕ) → old.meta.out ≡ Fresh d u → event ≡ GoneInTick d
      → HasRisen (g.slot (store_rack old.store) d).faults (g.slot (store_rack new.store) d).faults
  pub committed : (d u : ℕ)
      → old.meta.out ≡ Fresh d u → event ≡ GoneInTick d → named_of new.store ≡ Some d

-- At rest a tick begins the shift that the samples ask for, unless a disk has used up its
-- allowance; an idle one changes nothing. `rests` says what it may tell, whatever the samples are.
-- No cell becomes dirty or clean.
pub record TicksAtRest {R : Type 0} {g : Ghosts R}
    (windows : Windows) (old new : Core R g) (moved : ℕ) (event : TickEvent) : Type 0 where
  pub decides : old.meta.out ≡ No → old.meta.phase ≡ Steady → (samples : List ℕ)
      → HoldLastSamples windows samples → (s : PowerState) → IsShiftStateOf old.meta s
      → (moved ≡ 0) × TellsDecision old.meta.setup s (decision old.meta.setup s.gear samples) event
  pub idle : old.meta.out ≡ No → old.meta.phase ≡ Steady → IsIdleTick event → new ≡ old
  pub rests : old.meta.out ≡ No
      → old.meta.phase ≡ Steady → (moved ≡ 0) × TellsRest old.meta new.meta event
  pub table : old.meta.out ≡ No → old.meta.phase ≡ Steady → new.dirty ≡ old.dirty

-- What a tick moves of a shift that is under way, and what it tells of that.
pub record TicksShift
    {R : Type 0} {g : Ghosts R} (old new : Core R g) (moved : ℕ) (event : TickEvent) : Type 0 where
  pub moves : old.meta.out ≡ No
      → old.meta.phase ≢ Steady → CoreMoves g.slot_count old new moved event

-- The epoch has not fallen, and has risen by three at most beside one for each unit that the tick
-- may move.
pub record CommitsInTick {R : Type 0} {g : _} (count : R → ℕ) (old new : Core R g) : Type 0 where
  pub later : old.meta.epoch ≤ new.meta.epoch
  pub few : (samples : List ℕ) (served energy : ℕ) (s : PowerState)
      → IsStateOf (service_of count old samples served energy) s
      → new.meta.epoch ≤ old.meta.epoch + (units_of_tick old.meta.setup s + 3)
