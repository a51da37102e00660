-- How a command that mounts an array ends.
use Rattle.std.specs.Prelude.{◌≡◌, ℕ, Bool, List, [], ◌∷◌, length, Option, Some, None, IsSome}
use Rattle.paraid_base.specs.declared.event.Answer.{Answer}
use Rattle.paraid_base.specs.declared.event.Answer.TheVariants.{Flushed, Halted}
use Rattle.paraid_base.specs.declared.event.Event.TheVariants.{Flush}
use Rattle.paraid_base.specs.declared.fault.Halt.{Halt}
use Rattle.paraid_rack.specs.Calls.{AreReads}
use Rattle.paraid_rack.specs.Slots.{Agrees, Slot}
use Rattle.paraid_rack.specs.Told.{Extends, Ran}
use Rattle.paraid_rack.specs.Trail.{Trail, extend, moments, now}
use Rattle.paraid_rack.specs.declared.call.Call.{Call}
use Rattle.paraid_record.specs.declared.meta.Meta.{Meta}
use Rattle.paraid_record.specs.declared.meta.Setup.{Setup}
use Rattle.paraid_image.specs.Content.{view_by}
use Rattle.paraid_image.specs.Standing.{contents}
use Rattle.paraid_scrub.specs.Counts.{CountsByView, no_faults}
use Rattle.paraid_scrub.specs.declared.kind.CheckReport.{CheckReport}
use Rattle.paraid_session.specs.Mount.{IsMountedFromEach, IsRefusedFromEach}
use Rattle.paraid_serve.specs.Ending.{EndsWithLine, halt_line, status_of_halt}
use Rattle.paraid_serve.specs.Calls.{IsNotDouble}
use Rattle.paraid_serve.specs.Causes.{Shown}
use Rattle.paraid_serve.specs.Lost.{NamesTwoLost, TellsWear}
use Rattle.paraid_serve.specs.Output.{Headline, IsLeftByStretch}
use Rattle.paraid_serve.specs.Streams.{streams_of}
use Rattle.paraid_serve.specs.Stretch.{EndsStretch, Span, span_of}
use Rattle.paraid_serve.specs.Uses.{RackUse, SinkUse, SourceUse}
use Rattle.paraid_serve.specs.Statuses.{status_done, status_found, status_two, status_worn}
use Rattle.paraid_session.specs.Turn.{Point}
use Rattle.paraid_commands.specs.Generating.{GenHeadline, GenStreams}
use Rattle.paraid_recover.specs.declared.mount_fault.MountFault.{MountFault}
use Rattle.paraid_recover.specs.Map.{HasBitsOf}
use Rattle.paraid_recover.specs.Mount.{IsCauseOfRefusal}
use Rattle.paraid_recover.specs.StartRefusals.{refusal_by_fault}
use Rattle.paraid_commands.specs.Showing.{BeganAt, IsServedBy}
use Rattle.paraid_commands.specs.MountFaults.{mount_fault_line, mount_fault_status}
use Rattle.paraid_commands.specs.CheckCauses.{HasCheckCauses}
use Rattle.paraid_commands.specs.Counts.{check_line, check_status}

-- Where the record is told after a mount, it was told before; it is longer by the calls of the
-- mount, which began at this moment. Where it is told at the end of all, it was told after the
-- mount, and is longer by the calls since then.
pub record BeginsAt (before middle after : Option Trail) (began : ℕ) : Type 0 where
  pub calls : (t : Trail) → middle ≡ Some t
      → (s : Trail) × (cs : List Call) × (before ≡ Some s) × (t ≡ extend s cs) × (began ≡ moments s)
  pub grows : Extends middle after

-- A mount was refused for this cause, as a session allows it, and the rack was handed back.
pub record HandsBack (rack : RackUse) (fault : MountFault) : Type 0 where
  pub cause : IsCauseOfRefusal rack.slots rack.old rack.new rack.before rack.after fault
  pub grows : Extends rack.before rack.after
  pub refused : (began : ℕ) → BeganAt rack.before began
      → IsRefusedFromEach rack.slots began rack.after (refusal_by_fault fault)

-- An array in service: its meta, its dirty cells, and the slots of its rack.
pub record ServedArray : Type 0 where
  pub meta : Meta
  pub dirty : ℕ → ℕ → Bool
  pub slot : ℕ → Slot

-- what is seen of it as its service begins: nothing is staged, no energy was used, and nothing was
-- counted
abbrev pub shown_served : ServedArray → Shown
shown_served array = record {
  setup = array.meta.setup;
  meta = array.meta;
  dirty = array.dirty;
  staged = 0;
  slot = array.slot;
  gear = array.meta.gear;
  energy = 0;
  samples = [];
  served = 0;
  halt = None;
}

-- How a service starts: its array, the moment at which the mount began, and the record of the rack,
-- where it is told.
pub record ServiceStart : Type 0 where
  pub array : ServedArray
  pub began : ℕ
  pub told : Option Trail

-- A mount of the rack led to this service, and what it serves is what stood on the disks.
abbrev pub IsServed : RackUse → ServiceStart → Type 0
IsServed rack service =
    IsServedBy (record {
      slots = rack.slots;
      old = rack.old;
      new = service.array.slot;
      before = rack.before;
      after = service.told;
    }) service.array.meta service.array.dirty

-- the session of a service, up to the end of the command
abbrev pub served_span : RackUse → ServiceStart → Span
served_span rack service = span_of rack.slots service.array.meta.setup service.told rack.after

-- the source is as it was: nothing was read of it
abbrev pub IsUnheard : SourceUse → Type 0
IsUnheard source = (source.left ≡ source.left_before) × (source.faults ≡ source.faults_before)

-- A rack was not mounted, the fault was told, and `Unheard` holds (of a command that reads the
-- source: it was not heard); or it was mounted, this service of what stood on its disks began, and
-- then `P` holds of it.
pub data MountsAndThen (rack : RackUse)
    (sink : SinkUse) (status : ℕ) (Unheard : Type 0) (P : ServiceStart → Type 0) : Type 0 where
  refused : (fault : MountFault) → HandsBack rack fault
      → EndsWithLine sink.written_before sink.written (mount_fault_line fault)
      (mount_fault_status fault) status → Unheard → MountsAndThen rack sink status Unheard P
  mounted : (service : ServiceStart)
      → IsServed rack service → BeginsAt rack.before service.told rack.after service.began
      → P service → MountsAndThen rack sink status Unheard P

-- What is known over every rack of what was done with a mounted array, from the slots before the
-- mount to those at the end: at `status_done` at most one disk of the array is absent; at
-- `status_two` the last line names two different disks, of which the second has failed since before
-- the mount; and at `status_worn` it tells 2^62 commits or writes, or more.
pub record IsEndOver (setup : Setup) (rack : RackUse) (sink : SinkUse) (status : ℕ) : Type 0 where
  pub present : status ≡ status_done → IsNotDouble setup rack.new
  pub two : status ≡ status_two → NamesTwoLost rack.old rack.new sink.written_before sink.written
  pub worn : status ≡ status_worn → TellsWear sink.written_before sink.written

-- A run served a mounted array: its headline, by what was seen of the array from its mount to the
-- end, when its slots were those that are handed back; and what is known of its end over every
-- rack.
pub record ServesLines (rack : RackUse)
    (source : SourceUse) (sink : SinkUse) (status : ℕ) (service : ServiceStart) : Type 0 where
  pub seen : Shown
  pub headline : Headline (shown_served service.array) seen
      (served_span rack service) service.began (streams_of source sink) status
  pub last : seen.slot ≡ rack.new
  pub end : IsEndOver service.array.meta.setup rack sink status

-- The same of generated lines, by what was seen of the array from its mount to the end.
pub record ServesGenerated
    (rack : RackUse) (gen : GenStreams) (status : ℕ) (service : ServiceStart) : Type 0 where
  pub seen : Shown
  pub headline : GenHeadline
      (shown_served service.array) seen (served_span rack service) service.began gen status
  pub last : seen.slot ≡ rack.new
  pub end : IsEndOver service.array.meta.setup rack gen.sink status

-- From this first point of a session a check is one flush, which is answered so. It leaves a rack
-- that held all its writes, unless two disks are down.
pub record ChecksFromPoint (span : Span) (answer : Answer) (p : Point) : Type 0 where
  pub flush : EndsStretch span p (Flush ∷ []) answer
  pub left : IsLeftByStretch flush.all

-- Held or not, these are the counts of what the disks of this array hold, by the dirty cells that
-- it serves; and by those of their map, if these are the same. They are of all of it, unless a disk
-- has failed since that was there by the record then.
pub record CountsArray (array : ServedArray)
    (new : ℕ → Slot) (start final : Option Trail) (report : CheckReport) : Type 0 where
  pub agrees : (t : Trail) → start ≡ Some t → Agrees (now t) array.slot
  pub by_table : (t : Trail) → start ≡ Some t → IsSome final → CountsByView
      (record (view_by array.meta (now t).power (contents (now t) [])) { dirty = array.dirty })
      array.slot new report
  pub by_map : (t : Trail)
      → start ≡ Some t → IsSome final → HasBitsOf array.meta array.dirty (now t)
      → CountsByView (view_by array.meta (now t).power (contents (now t) [])) array.slot new report

-- A check told its counts, of which this holds, or the halt that ended it. On a rack that held a
-- history nothing was counted, and its calls are those of one flush.
pub data TellsCounts (span : Span)
    (began : ℕ) (sink : SinkUse) (status : ℕ) (Q : CheckReport → Type 0) : Type 0 where
  counted : (report : CheckReport) → EndsWithLine sink.written_before sink.written
      (check_line report) (check_status report) status
      → Q report → (IsSome span.now → IsMountedFromEach span.slots span.setup began span.start (λ p.
      (report ≡ no_faults) × ChecksFromPoint span (Flushed (length p.history)) p))
      → TellsCounts span began sink status Q
  halted : (halt : Halt)
      → EndsWithLine sink.written_before sink.written (halt_line halt) (status_of_halt halt) status
      → (IsSome span.now → IsMountedFromEach span.slots span.setup began span.start
      (ChecksFromPoint span (Halted halt))) → TellsCounts span began sink status Q

-- A check of a mounted array: what it told; that after the mount the disks were only read; why, by
-- what was seen of the array from its mount to the end, when its slots were those that are handed
-- back; and what is known of its end over every rack.
pub record ChecksArray
    (rack : RackUse) (sink : SinkUse) (status : ℕ) (service : ServiceStart) : Type 0 where
  pub told : TellsCounts (served_span rack service) service.began sink status
      (CountsArray service.array rack.new service.told rack.after)
  pub reads : Ran service.told rack.after (λ start calls. AreReads calls)
  pub seen : Shown
  pub causes
      : HasCheckCauses (shown_served service.array) seen sink.written_before sink.written status
  pub last : seen.slot ≡ rack.new
  pub end : IsEndOver service.array.meta.setup rack sink status
  pub found : status ≡ status_found → IsNotDouble service.array.meta.setup rack.new
