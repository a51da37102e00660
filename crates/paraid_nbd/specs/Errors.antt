-- How a request comes out over every device: its error is that of the request itself, or that of a
-- call that gave a halt; and what was asked of the device for it.
use Rattle.std.specs.Prelude.{◌≡◌, ◌≢◌, ℕ, List, [], ◌∷◌, ◌++◌, length, Option}
use Rattle.paraid_base.specs.declared.event.Answer.TheVariants.{Halted as HaltedAnswer}
use Rattle.paraid_base.specs.declared.event.Event.{Event}
use Rattle.paraid_base.specs.declared.fault.Halt.{Halt}
use Rattle.paraid_base.specs.BlockAnswers.{Answers}
use Rattle.paraid_base.specs.Told.{GrowsByBytes}
use Rattle.paraid_nbd.specs.declared.ending.NbdEnd.{NbdEnd}
use Rattle.paraid_nbd.specs.declared.request.Command.TheVariants.{Read}
use Rattle.paraid_nbd.specs.declared.request.Outcome.{Outcome}
use Rattle.paraid_nbd.specs.declared.request.Outcome.TheVariants.{Done, Halted}
use Rattle.paraid_nbd.specs.declared.request.Request.{Request}
use Rattle.paraid_nbd.specs.Asked.{Asks, AsksUntil}
use Rattle.paraid_nbd.specs.Handshake.{IsUnsent}
use Rattle.paraid_nbd.specs.Performing.{said_with}
use Rattle.paraid_nbd.specs.Requests.{RequestParts, outcome_of, request_in}

-- How a request came out, by the events that were kept in it. By itself: it is refused by what it
-- says, and there is no event. By all: it is done, by just its events. By a halt: a first part of
-- its events, and then one that was answered with a halt. `content` are the bytes that it brought;
-- `found` are those of a read, and mean something only where that was done.
pub data ComesBy (size : ℕ)
    (r : Request) (content found : List ℕ) (outcome : Outcome) (events : Answers) : Type 0 where
  By_itself : outcome_of size r ≢ Done
      → outcome ≡ outcome_of size r → events ≡ [] → ComesBy size r content found outcome events
  By_all : outcome_of size r ≡ Done → outcome ≡ Done
      → Asks r.command r.offset content found events → ComesBy size r content found outcome events
  By_halt : outcome_of size r ≡ Done
      → outcome ≡ Halted → (done : Answers) (event : Event) (halt : Halt)
      → AsksUntil r.command r.offset r.length content done event
      → events ≡ done ++ (event, HaltedAnswer halt) ∷ []
      → ComesBy size r content found outcome events

-- This is the reply to a request that brought these bytes: its error is by its outcome, and a read
-- that was done is answered with as many bytes as it asks for, those that were found.
pub record IsReplyTo
    (size : ℕ) (r : Request) (content out : List ℕ) (events : Answers) : Type 0 where
  pub outcome : Outcome
  pub found : List ℕ
  pub comes : ComesBy size r content found outcome events
  pub many : r.command ≡ Read → outcome ≡ Done → length found ≡ r.length
  pub is : out ≡ said_with r outcome found

-- the replies to some requests, one after the other, and the events that were kept in them
pub data AreRepliesTo (size : ℕ) : List RequestParts → List ℕ → Answers → Type 0 where
  None_said : AreRepliesTo size [] [] []
  One_said : (ps : List RequestParts)
      (out : List ℕ) (events : Answers) (p : RequestParts) (more : List ℕ) (kept : Answers)
      → AreRepliesTo size ps out events → IsReplyTo size (request_in p.head) p.content more kept
      → AreRepliesTo size (ps ++ p ∷ []) (out ++ more) (events ++ kept)

-- A request was answered.
pub record RepliesOne (size : ℕ) (kept : Answers → Type 0)
    (written now_written : Option (List ℕ)) (events : Answers) (p : RequestParts) : Type 0 where
  pub out : List ℕ
  pub new : Answers
  pub reply : IsReplyTo size (request_in p.head) p.content out new
  pub kept_is : kept (events ++ new)
  pub grows : GrowsByBytes written now_written out

-- A request was done, and the sink failed in its answer.
pub record RepliesUnsent
    (size : ℕ) (kept : Answers → Type 0) (written now_written : Option (List ℕ))
    (events : Answers) (p : RequestParts) (faults now_faults : ℕ) (end : NbdEnd) : Type 0 where
  pub out : List ℕ
  pub new : Answers
  pub reply : IsReplyTo size (request_in p.head) p.content out new
  pub kept_is : kept (events ++ new)
  pub unsent : IsUnsent written now_written out faults now_faults end

-- Requests were answered, one after the other.
pub record RepliesAll (size : ℕ) (kept : Answers → Type 0) (written now_written : Option (List ℕ))
    (events : Answers) (ps : List RequestParts) : Type 0 where
  pub out : List ℕ
  pub new : Answers
  pub replies : AreRepliesTo size ps out new
  pub kept_is : kept (events ++ new)
  pub grows : GrowsByBytes written now_written out
