-- What a mount promises: what is told of it, and why it is refused.
use Rattle.std.specs.Prelude.{◌≡◌, ℕ, ◌<◌, ◌≤◌, Bool, false, Option, Some, None}
use Rattle.paraid_base.specs.declared.fault.Two.{Two}
use Rattle.paraid_rack.specs.Slots.{Agrees, Slot}
use Rattle.paraid_rack.specs.Told.{Ran}
use Rattle.paraid_rack.specs.Trail.{Trail, now}
use Rattle.paraid_record.specs.declared.meta.Meta.{Meta}
use Rattle.paraid_image.specs.Lost.{EndsBySecond}
use Rattle.paraid_image.specs.Out.{named_out}
use Rattle.paraid_image.specs.Sides.{LogState, is_open, stored_block}
use Rattle.paraid_image.specs.Standing.{Stands, other_log}
use Rattle.paraid_recover.specs.declared.mount_fault.MountFault.{MountFault}
use Rattle.paraid_recover.specs.declared.mount_fault.MountFault.TheVariants.{NoMemory, Two as BothMissing}
use Rattle.paraid_recover.specs.Bearing.{BearsOnce, EndsBorne, IsNamedLog}
use Rattle.paraid_txn.specs.Borne.{IsBorneNow}
use Rattle.paraid_recover.specs.Examined.{IsExamined, IsRefused}
use Rattle.paraid_recover.specs.HeardSides.{IsOneLost, IsReadLosing, IsReadOnly, ReadsLogs}
use Rattle.paraid_txn.specs.Losses.{AreGoneSince, IsOutOfCommit, AreTwoDownBeside}
use Rattle.paraid_txn.specs.Uses.{EachCall}
use Rattle.paraid_recover.specs.EndOfMount.{IsMarkAtEnd, IsMarkAtMoment, KeepsDirty}
use Rattle.paraid_recover.specs.HeldMoments.{EndsHeld, RecoversHeld, ShowsAtEnd}
use Rattle.paraid_recover.specs.Map.{ChangesByBatch, HasMapAtEnd}
use Rattle.paraid_recover.specs.Mounted.{IsStandingWithLoss, with_loss}
use Rattle.paraid_recover.specs.MountCalls.{OnlyMountCalls}
use Rattle.paraid_recover.specs.RecoveryMark.{with_mark}
use Rattle.paraid_recover.specs.Still.{IsLeftWhole, StaysUnwritten}
use Rattle.paraid_recover.specs.Witness.{IsWitnessRefusal}
use Rattle.paraid_rack.specs.declared.call.Power.TheVariants.{Absent, Spinning}
use Rattle.paraid_recover.specs.StandingMetas.{StandsThroughMount}

-- What is told of a mount that is not refused before a write: the log disks were read, and log disk
-- `side` stands and says this then; from there on each moment holds what was held. All calls are
-- such as a mount may make of this array, and the first of them only read the logs. What stands in
-- an image that is looked at is foreseen.
pub record HasRecovered (side : ℕ) (said : LogState) (old new : Option Trail) : Type 0 where
  pub read : Option Trail
  pub reads : IsReadOnly old read
  pub first_calls : Ran old read (EachCall ReadsLogs)
  pub later_calls : OnlyMountCalls said.meta read new
  pub calls : OnlyMountCalls said.meta old new
  pub stands : (t : Trail) → read ≡ Some t → Stands (now t) side said
  pub holds : (slots : ℕ) → RecoversHeld slots side said read new
  pub metas : StandsThroughMount side said read new
  -- Held or not, past the log each block is as it was, or is of the batch that was ended.
  pub far : ChangesByBatch said.batch old new
  -- and a witness that is borne against a log disk that is gone is not borne again
  pub once : BearsOnce said.meta old new

-- At its end the disks are at rest under the meta that stands, of version 2, which is this one, but
-- for a disk that was lost since the last commit; and hold the writes that it counts. These are
-- then its dirty cells.
pub record HasSettled (side : ℕ)
    (said : LogState) (m : Meta) (dirty : ℕ → ℕ → Bool) (old new : Option Trail) : Type 0 where
  pub recovered : HasRecovered side said old new
  pub standing : Meta
  pub lost : Option ℕ
  pub is : m ≡ with_loss standing lost
  pub version_is : standing.version ≡ 2
  -- it is the meta that the log disk said, or that of one commit after it: with version 2, and with
  -- this disk marked or none
  pub mark : Option ℕ
  pub standing_is : standing ≡ with_mark said.meta mark
  -- so it had to be by the powers at a moment since the reads, and so the disk that was lost by
  -- those at the end
  pub mark_is : IsMarkAtMoment said.meta mark recovered.read new
  pub lost_is : IsMarkAtEnd standing lost new
  pub ends : (slots : ℕ) → EndsHeld slots side said standing recovered.read new
  pub map : (slots : ℕ) → ShowsAtEnd slots side said standing dirty recovered.read new
  -- and they are those that the log disk showed after the reads
  pub cells : (slots : ℕ) → KeepsDirty slots side said standing recovered.read new

-- A mount is served: no cause of a refusal is there, before the reads of the log disks and after
-- them, by which log disk `side` stands with this; and it is this that is recovered and settled.
-- The array is served under the meta that stands at the end, over these slots, of which no count of
-- faults has fallen, with the bits of the map, held or not.
pub record HasMounted (count : ℕ) (old new : ℕ → Slot) (named : Option ℕ)
    (m : Meta) (dirty : ℕ → ℕ → Bool) (told_old told_new : Option Trail) : Type 0 where
  pub side : ℕ
  pub said : LogState
  pub settled : HasSettled side said m dirty told_old told_new
  pub under : IsStandingWithLoss new named settled.standing m
  pub read : ℕ → Slot
  pub agrees : (t : Trail) → settled.recovered.read ≡ Some t → Agrees (now t) read
  pub examined : IsExamined count old read settled.recovered.read side said
  pub later : (d : ℕ) → (old d).faults ≤ (new d).faults
  pub map : HasMapAtEnd old new m dirty told_new
  -- no witness is borne against a log disk that stands alone
  pub unwitnessed : (read (other_log side)).power ≡ Absent → (read 2).power ≡ Spinning → (t : Trail)
      → settled.recovered.read ≡ Some t → is_open (stored_block (now t) 2 side) ≡ false
  -- witness is borne against the log disk that was named out
  pub borne : IsBorneNow (named_out said.meta.out) told_new
  -- and where a history was held, against the one that the meta that stands at the end names out
  pub marked : (slots : ℕ)
      → EndsBorne (IsNamedLog named) slots side said settled.recovered.read told_new
  -- where the array was left whole, as the reads of the log disks ended, and no call fails after
  -- them, the mount writes nothing
  pub unwritten : StaysUnwritten (IsLeftWhole said) settled.recovered.read told_new

-- Only reads of the log disks are told.
pub record HasOnlyRead (old new : Option Trail) : Type 0 where
  pub calls : Ran old new (EachCall ReadsLogs)
  pub quiet : IsReadLosing old new

-- No mount was begun: only reads of the log disks were made. No slot has changed; or one log disk
-- that spun has failed in them, and no other slot has changed.
pub record IsUnstarted (old new : ℕ → Slot) (told_old told_new : Option Trail) : Type 0 where
  pub lost : IsOneLost old new
  pub only : HasOnlyRead told_old told_new

-- Why a mount is refused: for want of memory or by what the reads of the log disks found, after
-- these reads alone; or because a second disk is down.
pub data IsCauseOfRefusal (count : ℕ)
    (old new : ℕ → Slot) (told_old told_new : Option Trail) (fault : MountFault) : Type 0 where
  no_memory : fault ≡ NoMemory → IsUnstarted old new told_old told_new
      → IsCauseOfRefusal count old new told_old told_new fault
  examined : IsRefused count old new told_new fault
      → HasOnlyRead told_old told_new → IsCauseOfRefusal count old new told_old told_new fault
  -- it is refused by the witness, after reads alone
  witnessed : (read : Option Trail) (mid : ℕ → Slot) (side : ℕ) (said : LogState) (two : Two)
      → Ran told_old told_new (EachCall ReadsLogs) → IsExamined count old mid read side said
      → side < 2 → fault ≡ BothMissing two → IsWitnessRefusal side mid new told_new two
      → IsCauseOfRefusal count old new told_old told_new fault
  -- the first was out after the reads, by what stands then, or has failed since; then the second
  -- has; one that failed is absent since, and no call follows the one that failed on the second
  two_down : (read : ℕ → Slot) (side : ℕ)
      (said : LogState) (two : Two) (recovered : HasRecovered side said told_old told_new)
      → ((t : Trail) → recovered.read ≡ Some t → Agrees (now t) read)
      → IsExamined count old read recovered.read side said → fault ≡ BothMissing two
      → AreTwoDownBeside (IsOutOfCommit (λ d. (read d).power) said.meta.setup.geometry.disks
      (named_out said.meta.out) None) read new two → AreGoneSince (IsOutOfCommit (λ d.
      (read d).power) said.meta.setup.geometry.disks (named_out said.meta.out) None) read new two
      → Ran recovered.read told_new (λ start calls. EndsBySecond two calls)
      → IsCauseOfRefusal count old new told_old told_new fault
