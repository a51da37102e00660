-- Why `gen` tells what it tells, whatever the rack holds: each line is answered with its cause, and
-- counted by its answer.
use Rattle.std.specs.Prelude.{◌≡◌, ℕ, List, [], ◌∷◌, ◌++◌, take}
use Rattle.paraid_base.specs.declared.event.Answer.{Answer}
use Rattle.paraid_base.specs.declared.event.Answer.TheVariants.{Flushed, Halted}
use Rattle.paraid_base.specs.declared.event.Event.{Event}
use Rattle.paraid_base.specs.declared.event.Event.TheVariants.{Flush}
use Rattle.paraid_base.specs.declared.fault.Halt.{Halt}
use Rattle.paraid_machine.specs.Machine.{block_count}
use Rattle.paraid_serve.specs.Causes.{HasCause, HaveCauses, Shown}
use Rattle.paraid_serve.specs.Ending.{end_line, halt_line, status_of_halt}
use Rattle.paraid_serve.specs.Output.{first_line}
use Rattle.paraid_serve.specs.Statuses.{status_done, status_sink}
use Rattle.paraid_commands.specs.declared.tally.Tally.{Tally}
use Rattle.paraid_commands.specs.GenEvents.{generated_events, summary}
use Rattle.paraid_commands.specs.Tally.{empty_tally, tally_with_answer, tally_with_event}

-- the count after these events and their answers, one for each
abbrev pub tally_over : Tally → List Event → List Answer → Tally
tally_over t [] answers = t
tally_over t (event ∷ events) [] = t
tally_over t (event ∷ events) (answer ∷ answers) =
    tally_over (tally_with_answer (tally_with_event t event) answer) events answers

-- So many lines of the trace of a number were answered, each with its cause, and counted so.
pub record CountsCauses
    (old : Shown) (number count : ℕ) (tally : Tally) (new : Shown) : Type 0 where
  pub answers : List Answer
  pub causes : HaveCauses old (generated_events number (block_count old.setup) count) answers new
  pub counted : tally
      ≡ tally_over empty_tally (generated_events number (block_count old.setup) count) answers

-- The lines before the last one: that of the mount, and the summary, with the gear that is seen
-- then: that of the meta, or after a halt the one before it.
pub record TellsGenerated
    (old : Shown) (number count : ℕ) (head rest : List ℕ) (new : Shown) : Type 0 where
  pub tally : Tally
  pub counts : CountsCauses old number count tally new
  pub begins : head ≡ first_line old
  pub sums : rest ≡ summary count tally new.gear new.energy

-- The whole text of `gen` by its status, with the cause of the flush at the end: what stands before
-- the last line, and the last line.
pub data GenCaused (old new : Shown) (number count : ℕ) : ℕ → List ℕ → List ℕ → Type 0 where
  done : (writes : ℕ) (head rest : List ℕ) (mid : Shown)
      → TellsGenerated old number count head rest mid → HasCause mid Flush (Flushed writes) new
      → GenCaused old new number count status_done (head ++ rest) (end_line writes)
  halted : (halt : Halt) (head rest : List ℕ) (mid : Shown)
      → TellsGenerated old number count head rest mid → HasCause mid Flush (Halted halt) new
      → GenCaused old new number count (status_of_halt halt) (head ++ rest) (halt_line halt)

-- What was written, with its causes: the whole text of the status; or at `status_sink` one whose
-- last line is cut, or the lines before it with a cut summary, and then nothing was flushed, or a
-- first part of the first line, and then no event was made.
pub data HasGenCauses (old new : Shown) (number count status : ℕ) (text : List ℕ) : Type 0 where
  whole : (front last : List ℕ) → GenCaused old new number count status front last
      → text ≡ front ++ last → HasGenCauses old new number count status text
  last_line : status ≡ status_sink
      → (code : ℕ) (front last : List ℕ) (n : ℕ) → GenCaused old new number count code front last
      → text ≡ front ++ take n last → HasGenCauses old new number count status text
  before_flush : status ≡ status_sink
      → (head rest : List ℕ) (n : ℕ) → TellsGenerated old number count head rest new
      → text ≡ head ++ take n rest → HasGenCauses old new number count status text
  at_first_line : status ≡ status_sink → new ≡ old → (rest : List ℕ)
      → first_line old ≡ text ++ rest → HasGenCauses old new number count status text
