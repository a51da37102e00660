-- The service of one client: the requests after the options, and how it ends
use Rattle.std.specs.Prelude.{◌≡◌, ◌≢◌, ℕ, ◌≤◌, List, [], ◌++◌, length, Option, Bool, IsTrue}
use Rattle.std.specs.List.{flat_map, AllByRecursion}
use Rattle.paraid_base.specs.declared.fault.Halt.{Halt}
use Rattle.paraid_base.specs.BlockAnswers.{Answers}
use Rattle.paraid_base.specs.History.{History}
use Rattle.paraid_base.specs.Told.{GrowsByBytes, HasRisen}
use Rattle.paraid_nbd.specs.declared.ending.NbdEnd.{NbdEnd}
use Rattle.paraid_nbd.specs.declared.ending.NbdEnd.TheVariants.{Done, Protocol, Sink, NoMemory}
use Rattle.paraid_nbd.specs.declared.request.Command.TheVariants.{Disconnect}
use Rattle.paraid_nbd.specs.declared.request.Request.{Request}
use Rattle.paraid_nbd.specs.Errors.{RepliesAll, RepliesOne, RepliesUnsent}
use Rattle.paraid_nbd.specs.Export.{IsDeviceState, ForEachState, RequestStep, RequestSteps}
use Rattle.paraid_nbd.specs.Handshake.{IsUnsent, BeginsTransmission, EndsEarly}
use Rattle.paraid_nbd.specs.Numbers.{number}
use Rattle.paraid_nbd.specs.Requests.{RequestParts, request_bytes, request_in, IsRequestMagic, IsRequest, IsPartRequest, IsLast}
use Rattle.paraid_nbd.specs.Taking.{Takes, IsCut}

-- A request was taken up to the bytes to write.
pub record TakesHead (before after : Option (List ℕ)) (old new : ℕ) (r : Request) : Type 0 where
  pub magic : List ℕ
  pub head : List ℕ
  pub magic_is : IsRequestMagic magic
  pub whole : length head ≡ 24
  pub is : r ≡ request_in head
  pub stays : r.command ≢ Disconnect
  pub takes : Takes before after old new (magic ++ head)

-- No whole request was taken that another one may follow.
pub data StopsRequest
    (before after : Option (List ℕ)) (old new faults now : ℕ) (end : NbdEnd) : Type 0 where
  CutRequest : (rest : List ℕ) → Takes before after old new rest → IsPartRequest rest
      → IsCut end after new faults now → StopsRequest before after old new faults now end
  WrongRequest : (rest : List ℕ)
      → Takes before after old new rest → length rest ≡ 4 → number 4 rest ≢ 0x25609513
      → end ≡ Protocol old → StopsRequest before after old new faults now end
  LastRequest : (rest : List ℕ) → Takes before after old new rest → IsLast rest → end ≡ Done
      → StopsRequest before after old new faults now end

-- A request was done and answered.
pub record DoesRequest (size : ℕ) (stands : History → Type 0)
    (halted : Option Halt) (kept : Answers → Type 0) (written now_written : Option (List ℕ))
    (s : Option History) (events : Answers) (p : RequestParts) : Type 0 where
  pub out : List ℕ
  pub new : Answers
  pub t : Option History
  pub step : RequestStep size s (request_in p.head) p.content out new t
  pub now : IsDeviceState stands halted t
  pub kept_is : kept (events ++ new)
  pub grows : GrowsByBytes written now_written out

-- A request was done, and the sink failed in its answer.
pub record DoesUnsent (size : ℕ) (stands : History → Type 0) (halted : Option Halt)
    (kept : Answers → Type 0) (written now_written : Option (List ℕ)) (s : Option History)
    (events : Answers) (p : RequestParts) (faults now_faults : ℕ) (end : NbdEnd) : Type 0 where
  pub out : List ℕ
  pub new : Answers
  pub t : Option History
  pub step : RequestStep size s (request_in p.head) p.content out new t
  pub now : IsDeviceState stands halted t
  pub kept_is : kept (events ++ new)
  pub unsent : IsUnsent written now_written out faults now_faults end

-- Requests were done and answered, one after the other.
pub record DoesRequests (size : ℕ) (stands : History → Type 0)
    (halted : Option Halt) (kept : Answers → Type 0) (written now_written : Option (List ℕ))
    (s : Option History) (events : Answers) (ps : List RequestParts) : Type 0 where
  pub out : List ℕ
  pub new : Answers
  pub t : Option History
  pub steps : RequestSteps size s ps out new t
  pub now : IsDeviceState stands halted t
  pub kept_is : kept (events ++ new)
  pub grows : GrowsByBytes written now_written out

module _ {D : Type 0} (size : ℕ) (stands : D → History
    → Type 0) (halted : D → Option Halt) (kept : D → D → Answers → Type 0) (tells : D → Bool) where
  -- One request was taken, done and answered.
  pub record Serves (was now : D) (before after : Option (List ℕ))
      (old new : ℕ) (written now_written : Option (List ℕ)) : Type 0 where
    pub parts : RequestParts
    pub is : IsRequest parts
    pub takes : Takes before after old new (request_bytes parts)
    pub does : (first : D) → ForEachState
        (stands was) (halted was) (kept first was) (tells now) (λ s events. DoesRequest size
        (stands now) (halted now) (kept first now) written now_written s events parts)
    pub replies : (first : D) (events : Answers)
        → kept first was events → RepliesOne size (kept first now) written now_written events parts

  -- The service ends at a request.
  pub data EndsRequest (was now : D)
      (before after : Option (List ℕ)) (old new : ℕ) (written now_written : Option (List ℕ))
      (faults now_faults sink_faults sink_now : ℕ) (end : NbdEnd) : Type 0 where
    UnreadRequest : StopsRequest before after old new faults now_faults end
        → GrowsByBytes written now_written [] → now ≡ was → EndsRequest
        was now before after old new written now_written faults now_faults sink_faults sink_now end
    UnsentAnswer : (p : RequestParts) → IsRequest p → Takes before after old new (request_bytes p)
        → end ≡ Sink → HasRisen sink_faults sink_now → ((first : D) → ForEachState (stands was)
        (halted was) (kept first was) (tells now) (λ s events. DoesUnsent size (stands now)
        (halted now) (kept first now) written now_written s events p sink_faults sink_now end))
        → ((first : D) (events : Answers) → kept first was events
        → RepliesUnsent size (kept first now) written now_written events p sink_faults sink_now end)
        → EndsRequest
        was now before after old new written now_written faults now_faults sink_faults sink_now end

  -- These requests were taken, done and answered.
  pub record ServesAll (was now : D) (before after : Option (List ℕ)) (old new : ℕ)
      (written now_written : Option (List ℕ)) (requests : List RequestParts) : Type 0 where
    pub each : AllByRecursion IsRequest requests
    pub takes : Takes before after old new (flat_map request_bytes requests)
    pub does : (first : D) → ForEachState
        (stands was) (halted was) (kept first was) (tells now) (λ s events. DoesRequests size
        (stands now) (halted now) (kept first now) written now_written s events requests)
    pub replies : (first : D) (events : Answers) → kept first was events
        → RepliesAll size (kept first now) written now_written events requests

  -- The requests up to the end.
  pub record Transmits (was now : D)
      (before after : Option (List ℕ)) (old new : ℕ) (written now_written : Option (List ℕ))
      (faults now_faults sink_faults sink_now : ℕ) (end : NbdEnd) : Type 0 where
    pub device : D
    pub left : Option (List ℕ)
    pub at : ℕ
    pub said : Option (List ℕ)
    pub low : ℕ
    pub sink_low : ℕ
    pub requests : List RequestParts
    pub serves : ServesAll was device before left old at written said requests
    pub later : faults ≤ low
    pub later_sink : sink_faults ≤ sink_low
    pub told : IsTrue (tells now) → IsTrue (tells device)
    pub ends : EndsRequest
        device now left after at new said now_written low now_faults sink_low sink_now end

  -- What a service did: the whole of it.
  pub data Service
      (was now : D) (before after : Option (List ℕ)) (written now_written : Option (List ℕ))
      (faults now_faults sink_faults sink_now : ℕ) (end : NbdEnd) : Type 0 where
    -- there is no memory, and nothing was done
    NoRoom : end ≡ NoMemory
        → now ≡ was → Takes before after 0 0 [] → GrowsByBytes written now_written [] → Service
        was now before after written now_written faults now_faults sink_faults sink_now end
    -- it ends before the transmission
    Early : (taken : ℕ) → now ≡ was → EndsEarly size before
        after 0 taken written now_written faults now_faults sink_faults sink_now end → Service
        was now before after written now_written faults now_faults sink_faults sink_now end
    Late : (left : Option (List ℕ)) (at taken : ℕ) (said : Option (List ℕ)) (low sink_low : ℕ)
        → BeginsTransmission size before left 0 at written said
        → faults ≤ low → sink_faults ≤ sink_low → Transmits
        was now left after at taken said now_written low now_faults sink_low sink_now end → Service
        was now before after written now_written faults now_faults sink_faults sink_now end
