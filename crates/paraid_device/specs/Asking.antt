-- One event that is asked of an array.
use Rattle.std.specs.Prelude.{◌≡◌, ℕ, IsSome, Result, Ok, Err}
use Rattle.paraid_base.specs.declared.event.Answer.{Answer}
use Rattle.paraid_base.specs.declared.event.Answer.TheVariants.{Halted}
use Rattle.paraid_base.specs.declared.event.Event.{Event}
use Rattle.paraid_base.specs.declared.fault.Halt.{Halt}
use Rattle.paraid_rack.specs.Slots.{Slot}
use Rattle.paraid_rack.specs.Told.{Extends, Ran}
use Rattle.paraid_session.specs.Turn.{GoesOn, Point, halt_told}
use Rattle.paraid_serve.specs.declared.serves.Serves.{Ghosts}
use Rattle.paraid_serve.specs.Causes.{HasCause}
use Rattle.paraid_serve.specs.Lost.{HasServedSince}
use Rattle.paraid_trace.specs.Answered.{answer_with}
use Rattle.paraid_trace.specs.declared.answered.Answered.{Answered}
use Rattle.paraid_trace.specs.declared.answered.Beside.{Beside}

-- the answer that was given, or the halt
abbrev pub answer_asked : Result Answered Halt → Beside → Answer
answer_asked (Ok answered) beside = answer_with answered beside
answer_asked (Err halt) beside = Halted halt

-- The array answers an event with its cause, or has halted.
pub record AsksArray
    {A : Type 0} (g : Ghosts A) (old new : A) (event : Event) (answer : Answer) : Type 0 where
  pub turn : (p : Point) → g.stands old p → Ran
      (g.told old) (g.told new) (GoesOn (g.slots old) (g.setup old) p event answer (g.stands new))
  pub grows : Extends (g.told old) (g.told new)
  pub same_slots : g.slots new ≡ g.slots old
  pub same_setup : g.setup new ≡ g.setup old
  pub halt : g.halted new ≡ halt_told answer
  pub again : IsSome (g.halted old) → g.halted new ≡ g.halted old
  pub cause : HasCause (g.shown old) event answer (g.shown new)
  pub since : (start : ℕ → Slot) → HasServedSince start (g.slot old) (g.halted old)
      → HasServedSince start (g.slot new) (g.halted new)
