-- How `plan` comes out, by its status.
use Rattle.std.specs.Prelude.{ℕ, ◌++◌, Bool, List}
use Rattle.paraid_planning.specs.Demand.{IsUnplanned}
use Rattle.paraid_planning.specs.Planned.{IsPlanned, unplanned_line}
use Rattle.paraid_planning.specs.declared.unplanned.Unplanned.{Unplanned}
use Rattle.paraid_planning.specs.declared.unplanned.Unplanned.TheVariants.{Source, TooLong, NoMemory, Demand}
use Rattle.paraid_record.specs.declared.meta.Meta.{Meta}
use Rattle.paraid_recover.specs.Mount.{IsCauseOfRefusal}
use Rattle.paraid_recover.specs.StartRefusals.{refusal_by_fault}
use Rattle.paraid_recover.specs.declared.mount_fault.MountFault.{MountFault}
use Rattle.paraid_serve.specs.Ending.{EndsWithLine, mount_line}
use Rattle.paraid_serve.specs.Uses.{RackUse, SinkUse, SourceUse}
use Rattle.paraid_serve.specs.Statuses.{status_demand, status_done, status_no_memory, status_source, status_too_long}
use Rattle.paraid_session.specs.Mount.{IsRefusedFromEach}
use Rattle.paraid_commands.specs.Ends.{IsUnheard}
use Rattle.paraid_commands.specs.MountFaults.{mount_fault_line, mount_fault_status}
use Rattle.paraid_commands.specs.Showing.{BeganAt, IsServedBy}

-- the status where there is no plan
abbrev pub unplanned_status : Unplanned → ℕ
unplanned_status Source = status_source
unplanned_status TooLong = status_too_long
unplanned_status NoMemory = status_no_memory
unplanned_status (Demand at) = status_demand

-- What was told of a demand and an array with this meta, by the status: the lines of its plan, or
-- why there is none.
pub data PlanLines (meta : Meta) (ups : ℕ) (source : SourceUse) : ℕ → List ℕ → Type 0 where
  planned : (text : List ℕ) → IsPlanned source.left_before source.left meta.setup ups text
      → PlanLines meta ups source status_done (mount_line meta.writes meta.gear ++ text)
  unplanned : (cause : Unplanned)
      → IsUnplanned source.left_before source.left source.faults_before source.faults cause
      → PlanLines meta ups source
      (unplanned_status cause) (mount_line meta.writes meta.gear ++ unplanned_line cause)

-- The lines were told; at `status_sink` only a first part of them was.
pub record TellsPlan
    (meta : Meta) (ups : ℕ) (source : SourceUse) (sink : SinkUse) (status : ℕ) : Type 0 where
  pub code : ℕ
  pub lines : List ℕ
  pub outcome : PlanLines meta ups source code lines
  pub ends : EndsWithLine sink.written_before sink.written lines code status

-- A plan was told of an array that the mount serves, and the disks are as the mount left them; or
-- the mount was refused, and the source was not heard.
pub data PlanOutcome
    (rack : RackUse) (source : SourceUse) (sink : SinkUse) (ups status : ℕ) : Type 0 where
  served : (meta : Meta) (dirty : ℕ → ℕ → Bool) → IsServedBy rack meta dirty
      → TellsPlan meta ups source sink status
      → PlanOutcome rack source sink ups status
  refused : (fault : MountFault)
      → IsCauseOfRefusal rack.slots rack.old rack.new rack.before rack.after fault
      → ((began : ℕ) → BeganAt rack.before began
      → IsRefusedFromEach rack.slots began rack.after (refusal_by_fault fault))
      → EndsWithLine sink.written_before sink.written (mount_fault_line fault)
      (mount_fault_status fault) status → IsUnheard source → PlanOutcome rack source sink ups status
