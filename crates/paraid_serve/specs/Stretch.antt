-- Some events of a session, one after the other.
use Rattle.std.specs.Prelude.{◌≡◌, ℕ, List, [], ◌∷◌, ◌++◌, Option, Some}
use Rattle.paraid_base.specs.declared.event.Answer.{Answer}
use Rattle.paraid_base.specs.declared.event.Event.{Event}
use Rattle.paraid_rack.specs.declared.call.Call.{Call}
use Rattle.paraid_rack.specs.Trail.{Trail, extend}
use Rattle.paraid_record.specs.declared.meta.Setup.{Setup}
use Rattle.paraid_trace.specs.LineEvents.{event_of}
use Rattle.paraid_trace.specs.Replies.{reply_of}
use Rattle.paraid_session.specs.Turn.{IsTurn, Point}

-- an event, its answer, and the calls that were made for it
pub record Turn : Type 0 where
  pub event : Event
  pub answer : Answer
  pub calls : List Call

-- one event with its answer and calls
abbrev pub turn_with : Event → Answer → List Call → Turn
turn_with event answer calls = record { event = event; answer = answer; calls = calls }

-- these turns lead from one point of a session to another
abbrev pub TurnsLead : ℕ → Setup → Point → List Turn → Point → Type 0
TurnsLead slots setup p [] q = q ≡ p
TurnsLead slots setup p (t ∷ turns) q = (mid : Point)
    × IsTurn slots setup p t.event t.answer t.calls mid × TurnsLead slots setup mid turns q

-- the events of some turns
abbrev pub turn_events : List Turn → List Event
turn_events [] = []
turn_events (t ∷ turns) = t.event ∷ turn_events turns

-- the calls of some turns
abbrev pub turn_calls : List Turn → List Call
turn_calls [] = []
turn_calls (t ∷ turns) = t.calls ++ turn_calls turns

-- the text of the answers
abbrev pub replies : List Turn → List ℕ
replies [] = []
replies (t ∷ turns) = reply_of t.answer ++ replies turns

-- what some lines ask for
abbrev pub events_in : List (List ℕ) → List Event
events_in [] = []
events_in (line ∷ lines) = event_of line ∷ events_in lines

-- Where a session runs: over a rack with so many slots, of an array configured so, from one record
-- of it to another.
pub record Span : Type 0 where
  pub slots : ℕ
  pub setup : Setup
  pub start : Option Trail
  pub now : Option Trail

-- the one with these slots, this setup and these records
abbrev pub span_of : ℕ → Setup → Option Trail → Option Trail → Span
span_of slots setup start now = record { slots = slots; setup = setup; start = start; now = now }

-- These events were answered, from point `p` on, by the calls from one record to another.
pub record Stretch (span : Span) (p : Point) (events : List Event) : Type 0 where
  pub turns : List Turn
  pub end : Point
  pub went : TurnsLead span.slots span.setup p turns end
  pub asked : turn_events turns ≡ events
  pub from : Trail
  pub to : Trail
  pub was : span.start ≡ Some from
  pub is : span.now ≡ Some to
  pub calls : to ≡ extend from (turn_calls turns)

-- the same, and the last event was answered so
pub record EndsStretch
    (span : Span) (p : Point) (events : List Event) (answer : Answer) : Type 0 where
  pub all : Stretch span p events
  pub before : List Turn
  pub last : Turn
  pub split : all.turns ≡ before ++ last ∷ []
  pub answered : last.answer ≡ answer
