-- What `nbd` does.
use Rattle.std.specs.Prelude.{◌≡◌, ℕ, ◌*◌, [], Some, None}
use Rattle.paraid_base.specs.Told.{GrowsByBytes, HasRisen}
use Rattle.paraid_image.specs.Rest.{AreSynced}
use Rattle.paraid_rack.specs.Trail.{now}
use Rattle.paraid_recover.specs.declared.mount_fault.MountFault.{MountFault}
use Rattle.paraid_serve.specs.Calls.{IsNotDouble}
use Rattle.paraid_record.specs.declared.meta.Setup.{Setup}
use Rattle.paraid_serve.specs.Causes.{Shown}
use Rattle.paraid_serve.specs.Streams.{streams_of}
use Rattle.paraid_serve.specs.Uses.{RackUse, SinkUse, SourceUse}
use Rattle.paraid_serve.specs.Statuses.{status_done, status_source, status_two}
use Rattle.paraid_machine.specs.Machine.{block_count}
use Rattle.paraid_nbd.specs.declared.ending.NbdEnd.{NbdEnd}
use Rattle.paraid_service.specs.ClientCauses.{ClientCauses}
use Rattle.paraid_service.specs.Clients.{ClientHeadline, LosesTwo, TakesClient}
use Rattle.paraid_service.specs.Ends.{broken_status}
use Rattle.paraid_commands.specs.Complete.{HeldHistory, Hinders}
use Rattle.paraid_commands.specs.Ends.{BeginsAt, HandsBack, IsServed, IsUnheard, ServiceStart, served_span, shown_served}
use Rattle.paraid_commands.specs.MountFaults.{mount_fault_status}

-- A client was served with a mounted array: its headline; over every rack what it was answered and
-- why, by what was seen of the array from its mount to the end, when its slots were those that are
-- handed back; that at `status_done` at most one disk of the array is absent, and that at
-- `status_two` of two different disks the second has failed since before the mount.
pub record ServesNbd (rack : RackUse)
    (source : SourceUse) (sink : SinkUse) (status : ℕ) (service : ServiceStart) : Type 0 where
  pub headline
      : ClientHeadline (served_span rack service) service.began (streams_of source sink) status
  pub seen : Shown
  pub causes : ClientCauses (shown_served service.array) seen (streams_of source sink) status
  pub last : seen.slot ≡ rack.new
  pub present : status ≡ status_done → IsNotDouble service.array.meta.setup rack.new
  pub two : status ≡ status_two → LosesTwo rack.old rack.new

-- A rack was not mounted, which the status tells, the source was not heard and nothing was written;
-- or it was, and then this holds of the array that is what stood on its disks.
pub data ServesNbdOrNot
    (rack : RackUse) (source : SourceUse) (sink : SinkUse) (status : ℕ) : Type 0 where
  refused : (fault : MountFault)
      → HandsBack rack fault → status ≡ mount_fault_status fault → IsUnheard source
      → GrowsByBytes sink.written_before sink.written [] → ServesNbdOrNot rack source sink status
  mounted : (service : ServiceStart)
      → IsServed rack service → BeginsAt rack.before service.told rack.after service.began
      → ServesNbd rack source sink status service → ServesNbdOrNot rack source sink status

-- A client was served whole by the array that was held: the service ended by a disconnect, an abort
-- or the end of the source, and no block of a disk that is there is loose.
pub record IsNbdWhole
    {rack : RackUse} (h : HeldHistory rack) (source : SourceUse) (sink : SinkUse) : Type 0 where
  pub end : NbdEnd
  pub taken : TakesClient (512 * block_count h.said.meta.setup) (streams_of source sink) end
  pub whole : broken_status end ≡ None
  pub synced : AreSynced (now h.last)

-- What hinders `nbd`, with the status that it has then.
pub data HindersNbd {rack : RackUse}
    (h : HeldHistory rack) (source : SourceUse) (sink : SinkUse) (status : ℕ) : Type 0 where
  -- the source has failed
  source_failed : status ≡ status_source
      → HasRisen source.faults_before source.faults → HindersNbd h source sink status
  -- the client broke the protocol, which `status_protocol` tells, or sent 2^40 bytes, which
  -- `status_too_long` does; or there was no memory for the buffer
  client : (setup : Setup) (end : NbdEnd) → broken_status end ≡ Some status
      → TakesClient (512 * block_count setup) (streams_of source sink) end
      → HindersNbd h source sink status
  -- as other commands that mount; no line tells it
  other : Hinders h (record sink { written_before = None; written = None }) status
      → HindersNbd h source sink status
