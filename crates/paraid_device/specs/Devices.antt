-- What contracts see of a device, what it stands for, and what it kept.
use Rattle.std.specs.Prelude.{◌≡◌, ℕ, List, [], ◌∷◌, Option, IsSome}
use Rattle.paraid_base.specs.declared.event.Event.{Event}
use Rattle.paraid_base.specs.declared.event.Event.TheVariants.{Flush, Read, Write}
use Rattle.paraid_base.specs.declared.fault.Halt.{Halt}
use Rattle.paraid_base.specs.BlockAnswers.{Answers}
use Rattle.paraid_base.specs.History.{History}
use Rattle.paraid_rack.specs.Slots.{Slot}
use Rattle.paraid_rack.specs.Told.{Extends}
use Rattle.paraid_session.specs.Turn.{Point}
use Rattle.paraid_serve.specs.declared.serves.Serves.{Ghosts}
use Rattle.paraid_serve.specs.Causes.{HasCause, Shown}
use Rattle.paraid_serve.specs.Lost.{HasServedSince}
use Rattle.paraid_serve.specs.Stretch.{Span, Stretch, Turn, span_of}
use Rattle.paraid_device.specs.declared.device.Device.{Device}

-- its array
abbrev pub array_of : {A : Type 0} {g : _} → Device A g → A
array_of device = device.array

-- the halt that has ended its service
abbrev pub halt_of_device : {A : Type 0} {g : _} → Device A g → Option Halt
halt_of_device device = device.halt

-- It stands for the history of a point at which its array stands.
pub record StandsFor (stands : Point → Type 0) (h : History) : Type 0 where
  pub point : Point
  pub at : stands point
  pub is : point.history ≡ h

-- the events of some turns, with their answers
abbrev pub answers_in : List Turn → Answers
answers_in [] = []
answers_in (t ∷ turns) = (t.event, t.answer) ∷ answers_in turns

-- what a session of an array runs over, from one time to another
abbrev pub span_between : {A : Type 0} (g : Ghosts A) → A → A → Span
span_between g first now = span_of (g.slots first) (g.setup first) (g.told first) (g.told now)

-- From this point of a session these events were answered so, by the calls from one record to
-- another, and then the array stands at the end of them.
pub record AnswersFrom
    (span : Span) (p : Point) (events : Answers) (stood : Point → Type 0) : Type 0 where
  pub asked : List Event
  pub all : Stretch span p asked
  pub answered : answers_in all.turns ≡ events
  pub stands : stood all.end

-- Each of these events is answered so with a cause, one after the other.
abbrev pub HaveAnswerCauses : Shown → Answers → Shown → Type 0
HaveAnswerCauses old [] new = new ≡ old
HaveAnswerCauses old (e ∷ events) new =
    (mid : Shown) × HasCause old e.0 e.1 mid × HaveAnswerCauses mid events new

-- what a block device asks of its array: a read, a write or a flush
abbrev pub IsBlockEvent : Event → Type 0
IsBlockEvent (Read block) = Unit {0}
IsBlockEvent (Write pairs) = Unit {0}
IsBlockEvent Flush = Unit {0}
IsBlockEvent event = ⊥

-- each of these events is one of them
abbrev pub AreBlockEvents : Answers → Type 0
AreBlockEvents [] = Unit {0}
AreBlockEvents (e ∷ events) = IsBlockEvent e.0 × AreBlockEvents events

-- Since the array was as the first is, it answered these reads, writes and flushes, each with its
-- cause: over the same slots and with the same setup; what is told is longer by its calls; a halt
-- that names two disks has come of the failure of the second one since; and where its record is
-- told, from each point at which it stood then a session led to a point at which it stands now.
pub record HasAnswered {A : Type 0} (g : Ghosts A) (first now : A) (events : Answers) : Type 0 where
  pub same_slots : g.slots now ≡ g.slots first
  pub same_setup : g.setup now ≡ g.setup first
  pub grows : Extends (g.told first) (g.told now)
  pub kinds : AreBlockEvents events
  pub causes : HaveAnswerCauses (g.shown first) events (g.shown now)
  pub since : (start : ℕ → Slot) → HasServedSince start (g.slot first) (g.halted first)
      → HasServedSince start (g.slot now) (g.halted now)
  pub leads : IsSome (g.told now) → (p : Point) → g.stands first p
      → AnswersFrom (span_between g first now) p events (g.stands now)
