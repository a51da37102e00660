-- When shifts and rebuilds end: after how many ticks, whatever is read and written between them.
use Rattle.std.specs.Prelude.{◌≡◌, ◌==◌, ℕ, ◌+◌, ◌⊎◌, Bool, true, false, List, [], ◌∷◌, None, if◌then◌else◌}
use Rattle.paraid_base.specs.declared.event.Answer.{Answer}
use Rattle.paraid_base.specs.declared.event.Answer.TheVariants.{Ticked}
use Rattle.paraid_base.specs.declared.event.Event.{Event}
use Rattle.paraid_base.specs.declared.event.Event.TheVariants.{Tick, Up, Down, Fail, Replace}
use Rattle.paraid_base.specs.declared.state.TickEvent.{TickEvent}
use Rattle.paraid_base.specs.declared.state.TickEvent.TheVariants.{Flipped, Moving}
use Rattle.paraid_base.specs.History.{History}
use Rattle.paraid_image.specs.Power.{PowerState}
use Rattle.paraid_machine.specs.Machine.{IsEventStep}
use Rattle.paraid_record.specs.declared.meta.Setup.{Setup}

-- an event that asks for no shift, takes no disk out and puts none in
abbrev pub is_mild : Event → Bool
is_mild Up = false
is_mild Down = false
is_mild (Fail d) = false
is_mild (Replace d) = false
is_mild event = true

-- all of them are so
abbrev pub AreMild : List (Event × Answer) → Type 0
AreMild [] = Unit {0}
AreMild (step ∷ steps) = (is_mild step.0 ≡ true) × AreMild steps

-- An array in this state answers these events so, one after the other, and no disk fails in them.
abbrev pub AnswersEach : Setup → PowerState → List (Event × Answer) → Type 0
AnswersEach setup s [] = Unit {0}
AnswersEach setup s (step ∷ steps) =
    (h : History) × (used : ℕ) × (new : PowerState)
    × IsEventStep setup h used s step.0 None step.1 new × AnswersEach setup new steps

-- an event that is a tick
abbrev pub counts_as_tick : Event → Bool
counts_as_tick Tick = true
counts_as_tick event = false

-- how many of the events are ticks
abbrev pub ticks_in : List (Event × Answer) → ℕ
ticks_in [] = 0
ticks_in (step ∷ steps) = (if counts_as_tick step.0 then 1 else 0) + ticks_in steps

-- the answer of a tick, in which this came
abbrev pub IsToldBy : TickEvent → Answer → Type 0
IsToldBy event answer = (gear : ℕ)
    × (moved : ℕ) × (answer ≡ Ticked (record { gear = gear; moved = moved; event = event }))

-- The answer of a tick of a shift that moved so many of the units that were left: it ends the shift
-- where these are all.
abbrev pub TellsUnits : ℕ → ℕ → Answer → Type 0
TellsUnits count left answer =
    (gear : ℕ) × (answer ≡ Ticked
    (record { gear = gear; moved = count; event = if count == left then Flipped else Moving }))

-- one of the answers is that of a tick in which this came
abbrev pub AnswersTell : TickEvent → List (Event × Answer) → Type 0
AnswersTell event [] = ⊥
AnswersTell event (step ∷ steps) = IsToldBy event step.1 ⊎ AnswersTell event steps
