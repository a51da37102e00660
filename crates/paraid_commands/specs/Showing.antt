-- How `status` comes out, by its status.
use Rattle.std.specs.Prelude.{◌≡◌, ℕ, Bool, List, Option, Some}
use Rattle.paraid_serve.specs.Ending.{EndsWithLine}
use Rattle.paraid_serve.specs.Uses.{RackUse, SinkUse}
use Rattle.paraid_serve.specs.Statuses.{status_done}
use Rattle.paraid_recover.specs.declared.mount_fault.MountFault.{MountFault}
use Rattle.paraid_rack.specs.Trail.{Trail, moments}
use Rattle.paraid_record.specs.declared.meta.Meta.{Meta}
use Rattle.paraid_recover.specs.Mount.{HasMounted, IsCauseOfRefusal}
use Rattle.paraid_recover.specs.Mounted.{IsServable}
use Rattle.paraid_session.specs.Mount.{IsMountedFromEach, IsRefusedFromEach}
use Rattle.paraid_recover.specs.FirstPoint.{IsFirstPoint}
use Rattle.paraid_recover.specs.StartRefusals.{refusal_by_fault}
use Rattle.paraid_commands.specs.MountFaults.{mount_fault_line, mount_fault_status}
use Rattle.paraid_commands.specs.States.{status_lines}

-- The calls from the one record to the other began at this moment.
abbrev pub BeganAt : Option Trail → ℕ → Type 0
BeganAt told began = (t : Trail) → told ≡ Some t → began ≡ moments t

-- An array is served by this meta and these dirty cells: its slots fit it and are powered by its
-- gear; and where the rack tells, the disks are at rest under it, hold the writes that it counts,
-- and their map has these cells. From each rack that held a history a session begins there.
pub record IsServedBy (rack : RackUse) (meta : Meta) (dirty : ℕ → ℕ → Bool) : Type 0 where
  pub epoch : ℕ
  pub disks : ℕ
  pub named : Option ℕ
  pub rows : ℕ
  pub servable : IsServable rack.slots rack.new epoch disks named meta rows
  pub mounted : HasMounted rack.slots rack.old rack.new named meta dirty rack.before rack.after
  pub session : (began : ℕ)
      → BeganAt rack.before began → IsMountedFromEach rack.slots meta.setup began rack.after
      (IsFirstPoint mounted.settled.standing dirty rack.after)

-- How `status` came out that met no fault of the sink: its status, and the lines that tell it. A
-- mount that was refused is one that a session allows to be refused so.
pub data ShowOutcome (rack : RackUse) : ℕ → List ℕ → Type 0 where
  shown : (meta : Meta) (dirty : ℕ → ℕ → Bool) → IsServedBy rack meta dirty
      → ShowOutcome rack status_done (status_lines meta dirty)
  refused : (fault : MountFault)
      → IsCauseOfRefusal rack.slots rack.old rack.new rack.before rack.after fault
      → ((began : ℕ) → BeganAt rack.before began
      → IsRefusedFromEach rack.slots began rack.after (refusal_by_fault fault))
      → ShowOutcome rack (mount_fault_status fault) (mount_fault_line fault)

-- The command came out so, and its lines were told; at `status_sink` only a first part of them was.
pub record Shows (rack : RackUse) (sink : SinkUse) (status : ℕ) : Type 0 where
  pub code : ℕ
  pub lines : List ℕ
  pub outcome : ShowOutcome rack code lines
  pub ends : EndsWithLine sink.written_before sink.written lines code status
