-- What a client was answered, whatever the rack holds: each error by what the request says or by a
-- halt, and each event of the array by its cause.
use Rattle.std.specs.Prelude.{◌≡◌, ℕ, ◌*◌, ◌≤◌, List, [], ◌∷◌, ◌++◌, Option, Some, None}
use Rattle.std.specs.List.{flat_map, AllByRecursion}
use Rattle.paraid_base.specs.declared.event.Answer.TheVariants.{Flushed, Halted}
use Rattle.paraid_base.specs.declared.event.Event.TheVariants.{Flush}
use Rattle.paraid_base.specs.declared.fault.Halt.{Halt}
use Rattle.paraid_base.specs.BlockAnswers.{Answers}
use Rattle.paraid_base.specs.Told.{GrowsByBytes}
use Rattle.paraid_device.specs.Devices.{HaveAnswerCauses}
use Rattle.paraid_machine.specs.Machine.{block_count}
use Rattle.paraid_nbd.specs.declared.ending.NbdEnd.{NbdEnd}
use Rattle.paraid_nbd.specs.declared.ending.NbdEnd.TheVariants.{NoMemory}
use Rattle.paraid_nbd.specs.Errors.{AreRepliesTo, IsReplyTo}
use Rattle.paraid_nbd.specs.Handshake.{BeginsTransmission, EndsEarly, IsUnsent}
use Rattle.paraid_nbd.specs.Requests.{IsRequest, RequestParts, request_bytes, request_in}
use Rattle.paraid_nbd.specs.Service.{StopsRequest}
use Rattle.paraid_nbd.specs.Taking.{Takes}
use Rattle.paraid_serve.specs.Causes.{Shown}
use Rattle.paraid_serve.specs.Ending.{status_of_halt}
use Rattle.paraid_serve.specs.Streams.{Streams}
use Rattle.paraid_serve.specs.Statuses.{status_done}
use Rattle.paraid_service.specs.Ends.{broken_status}

-- what went in and out up to a point: what is left of the source, how many bytes were taken, what
-- was written, and the counts of faults
pub record Midpoint : Type 0 where
  pub left : Option (List ℕ)
  pub at : ℕ
  pub said : Option (List ℕ)
  pub low : ℕ
  pub sink_low : ℕ

-- The service ends at a request, which is the last of the bytes up to `taken`, by these events:
-- none; or those of a request whose reply could not be written whole.
pub data EndsByReply (size : ℕ)
    (m : Midpoint) (x : Streams) (taken : ℕ) (end : NbdEnd) (events : Answers) : Type 0 where
  unread : StopsRequest m.left x.source.left m.at taken m.low x.source.faults end
      → GrowsByBytes m.said x.sink.written [] → events ≡ [] → EndsByReply size m x taken end events
  unsent : (p : RequestParts) (out : List ℕ)
      → IsRequest p → Takes m.left x.source.left m.at taken (request_bytes p)
      → IsReplyTo size (request_in p.head) p.content out events
      → IsUnsent m.said x.sink.written out m.sink_low x.sink.faults end
      → EndsByReply size m x taken end events

-- Requests were answered, one after the other, from one point to the end. These are all their
-- events.
pub record RepliesFrom (size : ℕ)
    (start : Midpoint) (x : Streams) (taken : ℕ) (end : NbdEnd) (events : Answers) : Type 0 where
  pub middle : Midpoint
  pub requests : List RequestParts
  pub each : AllByRecursion IsRequest requests
  pub takes : Takes start.left middle.left start.at middle.at (flat_map request_bytes requests)
  pub out : List ℕ
  pub made : Answers
  pub replies : AreRepliesTo size requests out made
  pub grows : GrowsByBytes start.said middle.said out
  pub later : start.low ≤ middle.low
  pub later_sink : start.sink_low ≤ middle.sink_low
  pub last : Answers
  pub all : events ≡ made ++ last
  pub ends : EndsByReply size middle x taken end last

-- A client was answered over every rack: what was taken is cut into flags, options, requests and a
-- rest, and what was written is the reply of each, by these events.
pub data RepliesToClient (size : ℕ) (x : Streams) (end : NbdEnd) (events : Answers) : Type 0 where
  no_room : end ≡ NoMemory → Takes x.source.left_before x.source.left 0 0 []
      → GrowsByBytes x.sink.written_before x.sink.written []
      → events ≡ [] → RepliesToClient size x end events
  early : (taken : ℕ)
      → EndsEarly size x.source.left_before x.source.left 0 taken x.sink.written_before
      x.sink.written x.source.faults_before x.source.faults x.sink.faults_before x.sink.faults end
      → events ≡ [] → RepliesToClient size x end events
  late : (start : Midpoint) (taken : ℕ)
      → BeginsTransmission size x.source.left_before start.left 0 start.at x.sink.written_before
      start.said → x.source.faults_before ≤ start.low → x.sink.faults_before ≤ start.sink_low
      → RepliesFrom size start x taken end events → RepliesToClient size x end events

-- The array answered these events, each with its cause, and a flush after them unless the service
-- was broken off; the status tells the end, or the answer to that flush.
pub data EndsWithCauses
    (old new : Shown) (events : Answers) (end : NbdEnd) (status : ℕ) : Type 0 where
  broken : broken_status end ≡ Some status
      → HaveAnswerCauses old events new → EndsWithCauses old new events end status
  kept : (writes : ℕ) → broken_status end ≡ None
      → status ≡ status_done → HaveAnswerCauses old (events ++ (Flush, Flushed writes) ∷ []) new
      → EndsWithCauses old new events end status
  halted : (halt : Halt) → broken_status end ≡ None → status ≡ status_of_halt halt
      → HaveAnswerCauses old (events ++ (Flush, Halted halt) ∷ []) new
      → EndsWithCauses old new events end status

-- What a client was answered, and why: by what was seen of the array as it was mounted and at the
-- end.
pub record ClientCauses (old new : Shown) (x : Streams) (status : ℕ) : Type 0 where
  pub end : NbdEnd
  pub events : Answers
  pub client : RepliesToClient (512 * block_count old.setup) x end events
  pub session : EndsWithCauses old new events end status
