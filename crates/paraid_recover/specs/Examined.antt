-- Why a mount is refused before a write, and what it goes on with where it is not.
use Rattle.std.specs.Prelude.{◌≡◌, ◌≢◌, ℕ, ◌<◌, ◌≤◌, ◌&&◌, Bool, Option, Some, if◌then◌else◌}
use Rattle.std.proofs.Common.{zero, suc}
use Rattle.paraid_base.specs.declared.fault.Two.{Two}
use Rattle.paraid_rack.specs.Slots.{Slot, AreSameSlots}
use Rattle.paraid_rack.specs.Trail.{Trail, now}
use Rattle.paraid_recover.specs.declared.sides.Sides.{Sides}
use Rattle.paraid_recover.specs.HeardSides.{AreBothLost, IsHeardAt, IsHeardBy, IsInForm, IsOneLost, side_by}
use Rattle.paraid_image.specs.Out.{named_out}
use Rattle.paraid_image.specs.Sides.{Batch, LogState, Side}
use Rattle.paraid_image.specs.Sides.Side.{formed}
use Rattle.paraid_image.specs.Sound.{Pairing}
use Rattle.paraid_image.specs.Standing.{other_log, standing}
use Rattle.paraid_recover.specs.declared.mount_fault.MountFault.{MountFault}
use Rattle.paraid_recover.specs.declared.mount_fault.MountFault.TheVariants.{NotFormatted, BadLog, BadMeta, Power, Two as BothMissing}
use Rattle.paraid_recover.specs.Order.{IsRefusedBy, IsNotRefused}
use Rattle.paraid_recover.specs.Refusals.{IsLeastDisk, IsNone, is_parked}
use Rattle.paraid_recover.specs.Said.{AreSidesFormed, IsRefusedBySides, standing_out}

-- what was heard of both log disks, with the batch of each
pub record Logs : Type 0 where
  pub sides : Sides
  pub first : Batch
  pub second : Batch

-- what was heard of both log disks, by these sides and batches
abbrev pub logs_of : Sides → Batch → Batch → Logs
logs_of sides first second = record { sides = sides; first = first; second = second }

-- the batch of log disk 0 or 1
abbrev pub batch_at : Logs → ℕ → Batch
batch_at logs zero = logs.first
batch_at logs (suc x) = logs.second

-- the side of log disk 0 or 1 in short
abbrev pub side_of : Logs → ℕ → Side
side_of logs zero = side_by logs.sides.first logs.first
side_of logs (suc x) = side_by logs.sides.second logs.second

-- The log disks say this where the rack tells its calls; one that is absent says nothing; and what
-- they say is in range.
pub record AreHeard (told : Option Trail) (slot : ℕ → Slot) (logs : Logs) : Type 0 where
  pub first : (t : Trail) → told ≡ Some t → IsHeardAt (now t) 0 logs.sides.first logs.first
  pub second : (t : Trail) → told ≡ Some t → IsHeardAt (now t) 1 logs.sides.second logs.second
  pub first_power : IsHeardBy logs.sides.first (slot 0).power
  pub second_power : IsHeardBy logs.sides.second (slot 1).power
  pub first_form : IsInForm logs.sides.first logs.first
  pub second_form : IsInForm logs.sides.second logs.second

-- log disk `x` stands by what was heard, and says this
pub record IsStanding (logs : Logs) (x : ℕ) (said : LogState) : Type 0 where
  pub stands : standing (side_of logs 0) (side_of logs 1) ≡ Some x
  pub says : side_of logs x ≡ formed said

-- both log disks are live and well formed, and what they say does not fit together
pub record AreUnpaired (logs : Logs) : Type 0 where
  pub first : LogState
  pub second : LogState
  pub says_first : side_of logs 0 ≡ formed first
  pub says_second : side_of logs 1 ≡ formed second
  pub first_live : standing_out logs.sides ≢ Some 0
  pub second_live : standing_out logs.sides ≢ Some 1
  pub apart : Pairing first second → ⊥

-- one of them refuses the mount: for its log where both gates are open, else for its meta
abbrev pub unpaired_fault : Bool → Bool → ℕ → MountFault
unpaired_fault first_open second_open disk =
    if first_open && second_open then BadLog disk else BadMeta disk

-- Why a mount is refused by what the log disks say, in the order of the tests: by each alone; by
-- one that stands and names itself out, which no array writes; by the one of two that are unpaired
-- which does not stand.
pub data IsRefusedByLogs (logs : Logs) (fault : MountFault) : Type 0 where
  by_sides : IsRefusedBySides logs.sides fault → IsRefusedByLogs logs fault
  by_itself : AreSidesFormed logs.sides → (x : ℕ) (said : LogState) → IsStanding logs x said
      → named_out said.meta.out ≡ Some x → fault ≡ BadMeta x → IsRefusedByLogs logs fault
  unpaired : AreSidesFormed logs.sides → (x : ℕ) (said : LogState)
      → IsStanding logs x said → named_out said.meta.out ≢ Some x → (pair : AreUnpaired logs)
      → fault ≡ unpaired_fault pair.first.opened pair.second.opened (other_log x)
      → IsRefusedByLogs logs fault

-- none of these causes is there, and this stands
pub record IsAgreed (logs : Logs) (x : ℕ) (said : LogState) : Type 0 where
  pub formed : AreSidesFormed logs.sides
  pub standing : IsStanding logs x said
  pub live : named_out said.meta.out ≢ Some x
  pub paired : AreUnpaired logs → ⊥

-- whether this log disk is parked
abbrev pub is_log_parked : (ℕ → Slot) → ℕ → Bool
is_log_parked slot x = is_parked (slot x).power

-- no log disk is parked
abbrev pub AreLogsAwake : (ℕ → Slot) → Type 0
AreLogsAwake slot = IsNone (is_log_parked slot) 2

-- Why a mount is refused before a read: a log disk is parked, or there are not two slots.
pub data IsRefusedBySlots (count : ℕ) (slot : ℕ → Slot) (fault : MountFault) : Type 0 where
  asleep : (x : ℕ)
      → IsLeastDisk (is_log_parked slot) 2 x → fault ≡ Power x → IsRefusedBySlots count slot fault
  few : AreLogsAwake slot → count < 2 → fault ≡ NotFormatted → IsRefusedBySlots count slot fault

-- no log disk is parked, and there are two slots
abbrev pub AreReadable : ℕ → (ℕ → Slot) → Type 0
AreReadable count slot = AreLogsAwake slot × (2 ≤ count)

-- Why a mount is refused after the reads: by what the log disks say, or by the meta that stands.
pub data IsRefusedAsHeard
    (count : ℕ) (slot : ℕ → Slot) (logs : Logs) (fault : MountFault) : Type 0 where
  by_logs : IsRefusedByLogs logs fault → IsRefusedAsHeard count slot logs fault
  by_meta : (x : ℕ) (said : LogState) → IsAgreed logs x said
      → IsRefusedBy count slot said.meta said.batch fault → IsRefusedAsHeard count slot logs fault

-- Why a mount on so many slots is refused with reads of the log disks alone, in the order of the
-- tests: by the slots; by the loss of both log disks; by what was heard.
pub data IsRefused
    (count : ℕ) (old new : ℕ → Slot) (told : Option Trail) (fault : MountFault) : Type 0 where
  by_slots : IsRefusedBySlots count old fault
      → AreSameSlots old new → IsRefused count old new told fault
  by_loss : AreReadable count old → (two : Two) → AreBothLost old new two → fault ≡ BothMissing two
      → IsRefused count old new told fault
  as_heard : AreReadable count old → IsOneLost old new → (logs : Logs) → AreHeard told new logs
      → IsRefusedAsHeard count new logs fault → IsRefused count old new told fault

-- log disk `x` stands with this, and there is no cause
pub record IsServedAsHeard
    (count : ℕ) (slot : ℕ → Slot) (logs : Logs) (x : ℕ) (said : LogState) : Type 0 where
  pub agreed : IsAgreed logs x said
  pub served : IsNotRefused count slot said.meta said.batch

-- No cause is there, before the reads and after them.
pub record IsExamined
    (count : ℕ) (old new : ℕ → Slot) (told : Option Trail) (x : ℕ) (said : LogState) : Type 0 where
  pub readable : AreReadable count old
  pub lost : IsOneLost old new
  pub logs : Logs
  pub heard : AreHeard told new logs
  pub served : IsServedAsHeard count new logs x said
