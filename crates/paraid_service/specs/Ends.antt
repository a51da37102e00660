-- How the service of a client ends, and its status.
use Rattle.std.specs.Prelude.{◌≡◌, ℕ, ◌∷◌, [], ◌++◌, Option, Some, None}
use Rattle.paraid_base.specs.declared.event.Answer.TheVariants.{Flushed, Halted}
use Rattle.paraid_base.specs.declared.event.Event.TheVariants.{Flush}
use Rattle.paraid_base.specs.declared.fault.Halt.{Halt}
use Rattle.paraid_base.specs.BlockAnswers.{Answers}
use Rattle.paraid_device.specs.Devices.{HasAnswered}
use Rattle.paraid_nbd.specs.declared.ending.NbdEnd.{NbdEnd}
use Rattle.paraid_nbd.specs.declared.ending.NbdEnd.TheVariants.{Done, Aborted, Closed, Protocol, TooLong, Source, Sink, NoMemory}
use Rattle.paraid_serve.specs.declared.serves.Serves.{Ghosts}
use Rattle.paraid_serve.specs.Ending.{status_of_halt}
use Rattle.paraid_serve.specs.Statuses.{status_done, status_no_memory, status_protocol, status_sink, status_source, status_too_long}

-- the status of a service that was broken off; after the others what was written is kept
abbrev pub broken_status : NbdEnd → Option ℕ
broken_status Done = None
broken_status Aborted = None
broken_status Closed = None
broken_status (Protocol at) = Some status_protocol
broken_status (TooLong bytes) = Some status_too_long
broken_status Source = Some status_source
broken_status Sink = Some status_sink
broken_status NoMemory = Some status_no_memory

-- A flush is the last event, and the status tells its answer.
pub data Flushes
    {A : Type 0} (g : Ghosts A) (first now : A) (events : Answers) (status : ℕ) : Type 0 where
  kept : (writes : ℕ) → status ≡ status_done
      → g.halted now ≡ None → HasAnswered g first now (events ++ (Flush, Flushed writes) ∷ [])
      → Flushes g first now events status
  halted : (halt : Halt) → status ≡ status_of_halt halt
      → g.halted now ≡ Some halt → HasAnswered g first now (events ++ (Flush, Halted halt) ∷ [])
      → Flushes g first now events status

-- The service ended so.
pub data EndsService {A : Type 0}
    (g : Ghosts A) (first now : A) (events : Answers) (end : NbdEnd) (status : ℕ) : Type 0 where
  broken : broken_status end ≡ Some status
      → HasAnswered g first now events → EndsService g first now events end status
  flushed : broken_status end ≡ None
      → Flushes g first now events status → EndsService g first now events end status
