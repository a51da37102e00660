-- What a client of the block service was answered by a mounted array, as a session of it.
use Rattle.std.specs.Prelude.{◌≡◌, ℕ, ◌*◌, ◌≤◌, ◌⊎◌, List, [], ◌∷◌, ◌++◌, Option, Some, None, IsSome}
use Rattle.std.specs.List.{flat_map, AllByRecursion}
use Rattle.paraid_base.specs.declared.event.Answer.TheVariants.{Flushed, Halted}
use Rattle.paraid_base.specs.declared.event.Event.{Event}
use Rattle.paraid_base.specs.declared.event.Event.TheVariants.{Flush}
use Rattle.paraid_base.specs.declared.fault.Halt.{Halt}
use Rattle.paraid_base.specs.declared.fault.Two.{Two}
use Rattle.paraid_base.specs.BlockAnswers.{Answers}
use Rattle.paraid_base.specs.History.{History}
use Rattle.paraid_base.specs.Told.{GrowsByBytes, HasRisen}
use Rattle.paraid_device.specs.Devices.{AreBlockEvents, answers_in}
use Rattle.paraid_image.specs.Rest.{AreSynced}
use Rattle.paraid_machine.specs.Machine.{block_count}
use Rattle.paraid_nbd.specs.declared.ending.NbdEnd.{NbdEnd}
use Rattle.paraid_nbd.specs.declared.ending.NbdEnd.TheVariants.{NoMemory, Sink}
use Rattle.paraid_nbd.specs.Export.{RequestStep, RequestSteps}
use Rattle.paraid_nbd.specs.Handshake.{BeginsTransmission, EndsEarly, IsUnsent}
use Rattle.paraid_nbd.specs.Requests.{IsRequest, RequestParts, request_bytes, request_in}
use Rattle.paraid_nbd.specs.Service.{StopsRequest}
use Rattle.paraid_nbd.specs.Taking.{Takes}
use Rattle.paraid_rack.specs.Slots.{Slot}
use Rattle.paraid_rack.specs.Trail.{Trail, now}
use Rattle.paraid_serve.specs.Ending.{status_of_halt}
use Rattle.paraid_serve.specs.Lost.{IsSecondLost}
use Rattle.paraid_serve.specs.Output.{IsLeftByStretch}
use Rattle.paraid_serve.specs.Streams.{Streams}
use Rattle.paraid_serve.specs.Stretch.{Span, Stretch}
use Rattle.paraid_serve.specs.Statuses.{IsOneOf, status_done, status_no_memory, status_protocol, status_sink, status_source, status_too_long, status_two, status_worn}
use Rattle.paraid_session.specs.Mount.{IsMountedFromEach}
use Rattle.paraid_session.specs.Turn.{Point}
use Rattle.paraid_service.specs.Ends.{broken_status}

-- The service ends at a request, by these events: none; or those of a request whose answer could
-- not be written whole.
pub data EndsAtRequest
    (size : ℕ) (m : Option History) (before after : Option (List ℕ)) (old new : ℕ)
    (written now_written : Option (List ℕ)) (faults now_faults sink_faults sink_now : ℕ)
    (end : NbdEnd) (events : Answers) (t : Option History) : Type 0 where
  unread : StopsRequest before after old new faults now_faults end
      → GrowsByBytes written now_written [] → events ≡ [] → t ≡ m → EndsAtRequest size
      m before after old new written now_written faults now_faults sink_faults sink_now end events t
  unsent : (p : RequestParts) (out : List ℕ)
      → IsRequest p → Takes before after old new (request_bytes p)
      → RequestStep size m (request_in p.head) p.content out events t
      → IsUnsent written now_written out sink_faults sink_now end → EndsAtRequest size
      m before after old new written now_written faults now_faults sink_faults sink_now end events t

-- Requests were answered, one after the other, up to the end. These are all their events.
pub record AnswersRequests
    (size : ℕ) (s : Option History) (before after : Option (List ℕ)) (old new : ℕ)
    (written now_written : Option (List ℕ)) (faults now_faults sink_faults sink_now : ℕ)
    (end : NbdEnd) (events : Answers) (t : Option History) : Type 0 where
  pub left : Option (List ℕ)
  pub at : ℕ
  pub said : Option (List ℕ)
  pub low : ℕ
  pub sink_low : ℕ
  pub requests : List RequestParts
  pub each : AllByRecursion IsRequest requests
  pub takes : Takes before left old at (flat_map request_bytes requests)
  pub out : List ℕ
  pub made : Answers
  pub m : Option History
  pub steps : RequestSteps size s requests out made m
  pub grows : GrowsByBytes written said out
  pub later : faults ≤ low
  pub later_sink : sink_faults ≤ sink_low
  pub last : Answers
  pub all : events ≡ made ++ last
  pub ends : EndsAtRequest
      size m left after at new said now_written low now_faults sink_low sink_now end last t

-- A client was answered on a device that served this history: what was taken is cut into flags,
-- options, requests and a rest, and what was written is the reply of each. Of these events and
-- replies the requests say which they are, and t is the history after them, or none after a halt.
pub data AnswersClient (size : ℕ) (h : History)
    (streams : Streams) (end : NbdEnd) (events : Answers) (t : Option History) : Type 0 where
  no_room : end ≡ NoMemory → Takes streams.source.left_before streams.source.left 0 0 []
      → GrowsByBytes streams.sink.written_before streams.sink.written []
      → events ≡ [] → t ≡ Some h → AnswersClient size h streams end events t
  early : (taken : ℕ) → EndsEarly size streams.source.left_before streams.source.left
      0 taken streams.sink.written_before streams.sink.written streams.source.faults_before
      streams.source.faults streams.sink.faults_before streams.sink.faults end
      → events ≡ [] → t ≡ Some h → AnswersClient size h streams end events t
  late : (left : Option (List ℕ)) (at taken : ℕ) (said : Option (List ℕ)) (low sink_low : ℕ)
      → BeginsTransmission size streams.source.left_before left 0 at streams.sink.written_before
      said → streams.source.faults_before ≤ low → streams.sink.faults_before ≤ sink_low
      → AnswersRequests size (Some h) left streams.source.left at taken
      said streams.sink.written low streams.source.faults sink_low streams.sink.faults end events t
      → AnswersClient size h streams end events t

-- The array answered these events from point p on, and no others.
pub record Keeps (span : Span) (p : Point) (events : Answers) : Type 0 where
  pub asked : List Event
  pub all : Stretch span p asked
  pub answered : answers_in all.turns ≡ events

-- The events of a client are those that the array answered, with a flush after them unless the
-- service was broken off; and the status tells the end, or the answer to that flush.
pub data EndsWithStatus
    (span : Span) (p : Point) (events : Answers) (end : NbdEnd) (status : ℕ) : Type 0 where
  broken : broken_status end ≡ Some status
      → Keeps span p events → EndsWithStatus span p events end status
  kept : (writes : ℕ) → broken_status end ≡ None
      → status ≡ status_done → Keeps span p (events ++ (Flush, Flushed writes) ∷ [])
      → EndsWithStatus span p events end status
  halted : (halt : Halt) → broken_status end ≡ None → status ≡ status_of_halt halt
      → Keeps span p (events ++ (Flush, Halted halt) ∷ []) → EndsWithStatus span p events end status

-- What follows from the first point of a session: the client was answered by reads, writes and
-- flushes alone, and these were kept.
pub record FollowsForClient
    (span : Span) (streams : Streams) (status : ℕ) (end : NbdEnd) (p : Point) : Type 0 where
  pub events : Answers
  pub t : Option History
  pub client : AnswersClient (512 * block_count span.setup) p.history streams end events t
  pub kinds : AreBlockEvents events
  pub session : EndsWithStatus span p events end status
  -- what each stretch of the session leaves, up to any of its marks; what a stop within one leaves,
  -- each turn says
  pub left : (mid : Option Trail)
      (asked : List Event) (c : Stretch (record span { now = mid }) p asked) → IsLeftByStretch c
  pub synced : status ≡ status_done → (u : Trail) → span.now ≡ Some u → AreSynced (now u)

-- The service ends at a request.
pub data StopsAtRequest (before after : Option (List ℕ))
    (old new : ℕ) (faults now_faults sink_faults sink_now : ℕ) (end : NbdEnd) : Type 0 where
  stopped : StopsRequest before after old new faults now_faults end
      → StopsAtRequest before after old new faults now_faults sink_faults sink_now end
  cut_short : (p : RequestParts) → IsRequest p
      → Takes before after old new (request_bytes p) → end ≡ Sink → HasRisen sink_faults sink_now
      → StopsAtRequest before after old new faults now_faults sink_faults sink_now end

-- Which bytes were taken, and how the service ended for it, over every rack.
pub data TakesClient (size : ℕ) (streams : Streams) (end : NbdEnd) : Type 0 where
  no_room : end ≡ NoMemory → Takes streams.source.left_before streams.source.left 0 0 []
      → GrowsByBytes streams.sink.written_before streams.sink.written []
      → TakesClient size streams end
  early : (taken : ℕ) → EndsEarly size streams.source.left_before streams.source.left
      0 taken streams.sink.written_before streams.sink.written streams.source.faults_before
      streams.source.faults streams.sink.faults_before streams.sink.faults end
      → TakesClient size streams end
  late : (middle left : Option (List ℕ)) (at place taken : ℕ) (said : Option (List ℕ))
      (low sink_low : ℕ) (requests : List RequestParts)
      → BeginsTransmission size streams.source.left_before middle 0 at
      streams.sink.written_before said → AllByRecursion IsRequest requests
      → Takes middle left at place (flat_map request_bytes requests)
      → streams.source.faults_before ≤ low
      → streams.sink.faults_before ≤ sink_low → StopsAtRequest left streams.source.left place taken
      low streams.source.faults sink_low streams.sink.faults end → TakesClient size streams end

-- a status tells the end at which a client was broken off, or how the flush came out
pub data IsStatusOfEnd (end : NbdEnd) (status : ℕ) : Type 0 where
  told : broken_status end ≡ Some status → IsStatusOfEnd end status
  flushed : broken_status end ≡ None → (status ≡ status_done)
      ⊎ (status ≡ status_two) ⊎ (status ≡ status_worn) → IsStatusOfEnd end status

-- The headline of a client. Over every rack: which bytes were taken, how the service ended for it,
-- and that the status tells this. Where all is told, on a rack that held a history: what was
-- answered, and that it is a session.
pub record ClientHeadline (span : Span) (began : ℕ) (streams : Streams) (status : ℕ) : Type 0 where
  pub end : NbdEnd
  pub taken : TakesClient (512 * block_count span.setup) streams end
  pub ended : IsStatusOfEnd end status
  pub said : IsSome span.now → IsMountedFromEach span.slots span.setup began span.start
      (FollowsForClient span streams status end)

-- the statuses of a client of a mounted array
abbrev pub IsClientStatus : ℕ → Type 0
IsClientStatus status = IsOneOf (status_done ∷ status_source ∷ status_sink
    ∷ status_two ∷ status_no_memory ∷ status_too_long ∷ status_worn ∷ status_protocol ∷ []) status

-- Two disks are named, of which the second has failed between these slots. Of the first this says
-- only that it is another one.
pub record LosesTwo (old new : ℕ → Slot) : Type 0 where
  pub two : Two
  pub lost : IsSecondLost old new two
