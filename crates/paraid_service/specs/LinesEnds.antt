-- The last flush and the last line of a session of volumes.
use Rattle.std.specs.Prelude.{◌≡◌, ℕ, ◌∷◌, [], ◌++◌, List, length, Option, Some, None, IsSome, codes}
use Rattle.paraid_base.specs.BlockAnswers.{Answers}
use Rattle.paraid_base.specs.History.{History}
use Rattle.paraid_base.specs.declared.event.Answer.{Answer}
use Rattle.paraid_base.specs.declared.event.Answer.TheVariants.{Flushed, Halted}
use Rattle.paraid_base.specs.declared.event.Event.TheVariants.{Flush}
use Rattle.paraid_base.specs.declared.fault.Halt.{Halt}
use Rattle.paraid_device.specs.declared.device.Device.{Device}
use Rattle.paraid_device.specs.Devices.{HasAnswered, StandsFor, array_of, halt_of_device}
use Rattle.paraid_serve.specs.declared.serves.Serves.{Ghosts}
use Rattle.paraid_serve.specs.Ending.{EndsWithLine, end_line, halt_line, status_of_halt}
use Rattle.paraid_serve.specs.Statuses.{status_done, status_sink, status_source, status_too_long}
use Rattle.paraid_service.specs.declared.run.LinesEnd.{LinesEnd}
use Rattle.paraid_service.specs.declared.run.LinesEnd.TheVariants.{Done, Source, TooLong, Sink}

-- since the first it kept these events, as its array
abbrev pub device_kept : {A : Type 0} (g : Ghosts A) → Device A g → Device A g → Answers → Type 0
device_kept g first now = HasAnswered g (array_of first) (array_of now)

-- The last flush: the device kept it with this answer, has this halt then, and a halt that it had
-- before.
pub record HasFlushed {A : Type 0}
    (g : Ghosts A) (old new : Device A g) (answer : Answer) (halt : Option Halt) : Type 0 where
  pub kept : (first : Device A g) (events : Answers)
      → device_kept g first old events → device_kept g first new (events ++ (Flush, answer) ∷ [])
  pub halted : halt_of_device new ≡ halt
  pub again : IsSome (halt_of_device old) → halt_of_device new ≡ halt_of_device old
  pub number : (h : History) → StandsFor (g.stands (array_of old)) h
      → IsSome (g.told (array_of new)) → (writes : ℕ) → answer ≡ Flushed writes → writes ≡ length h

-- The lines have ended so; what was written is kept where all were answered, and the last line
-- tells the end.
pub data EndsSession {A : Type 0} (g : Ghosts A)
    (old new : Device A g) (before after : Option (List ℕ)) : LinesEnd → ℕ → Type 0 where
  kept : (writes status : ℕ) → HasFlushed g old new (Flushed writes) None
      → EndsWithLine before after (end_line writes) status_done status
      → EndsSession g old new before after Done status
  halted : (halt : Halt) (status : ℕ) → HasFlushed g old new (Halted halt) (Some halt)
      → EndsWithLine before after (halt_line halt) (status_of_halt halt) status
      → EndsSession g old new before after Done status
  at_source : (status : ℕ)
      → new ≡ old → EndsWithLine before after (codes "source\n") status_source status
      → EndsSession g old new before after Source status
  too_long : (status : ℕ)
      → new ≡ old → EndsWithLine before after (codes "toolong\n") status_too_long status
      → EndsSession g old new before after TooLong status
  at_sink : new ≡ old → after ≡ before → EndsSession g old new before after Sink status_sink
