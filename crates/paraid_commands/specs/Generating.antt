-- What `gen` answers and writes.
use Rattle.std.specs.Prelude.{◌≡◌, ℕ, List, [], ◌∷◌, ◌++◌, Option, IsSome}
use Rattle.paraid_base.specs.declared.event.Answer.{Answer}
use Rattle.paraid_base.specs.declared.event.Answer.TheVariants.{Flushed, Halted}
use Rattle.paraid_base.specs.declared.event.Event.{Event}
use Rattle.paraid_base.specs.declared.event.Event.TheVariants.{Flush}
use Rattle.paraid_base.specs.declared.fault.Halt.{Halt}
use Rattle.paraid_base.specs.Told.{GrowsByBytes}
use Rattle.paraid_rack.specs.declared.call.Call.{Call}
use Rattle.paraid_rack.specs.Trail.{Trail}
use Rattle.paraid_machine.specs.Machine.{block_count}
use Rattle.paraid_session.specs.Mount.{IsMountedFromEach}
use Rattle.paraid_serve.specs.Causes.{Shown}
use Rattle.paraid_serve.specs.Ending.{end_line, halt_line, status_of_halt}
use Rattle.paraid_serve.specs.Output.{IsLeftByStretch, begins_with}
use Rattle.paraid_serve.specs.Stretch.{Span, Stretch, Turn, turn_with}
use Rattle.paraid_serve.specs.Uses.{SinkUse}
use Rattle.paraid_serve.specs.Statuses.{IsOneOf, status_done, status_sink, status_two, status_worn}
use Rattle.paraid_session.specs.Turn.{Point}
use Rattle.paraid_commands.specs.GenCauses.{HasGenCauses}
use Rattle.paraid_commands.specs.GenEvents.{generated_events, summary}
use Rattle.paraid_commands.specs.Tally.{empty_tally, tally_of}

-- the statuses of `gen` on an array that is mounted
abbrev pub IsGenStatus : ℕ → Type 0
IsGenStatus status = IsOneOf (status_done ∷ status_sink ∷ status_two ∷ status_worn ∷ []) status

-- so many lines of the trace of a number were answered
abbrev pub AnswersGenerated : Span → Point → ℕ → ℕ → Type 0
AnswersGenerated span p number count =
    Stretch span p (generated_events number (block_count span.setup) count)

-- so many lines of the trace of a number were answered, and then a flush was
pub record Flushes (span : Span) (p : Point) (number count : ℕ) (answer : Answer) : Type 0 where
  pub middle : Option Trail
  pub lines : AnswersGenerated (record span { now = middle }) p number count
  pub all : Stretch span p (generated_events number (block_count span.setup) count ++ Flush ∷ [])
  pub calls : List Call
  pub turns : all.turns ≡ lines.turns ++ turn_with Flush answer calls ∷ []

-- the text of the lines before the last one, of a session from `p` to `end`
abbrev pub first_lines : Point → ℕ → List Turn → Point → List ℕ
first_lines p count turns end =
    begins_with p ++ summary count (tally_of empty_tally turns) end.state.gear end.energy

-- The text of a call that met no fault of the sink, by its status.
pub data GenOutput (span : Span) (p : Point) (number count : ℕ) : ℕ → List ℕ → Type 0 where
  done : (writes : ℕ) (e : Flushes span p number count (Flushed writes))
      → GenOutput span p number count status_done
      (first_lines p count e.lines.turns e.lines.end ++ end_line writes)
  halted : (halt : Halt) (e : Flushes span p number count (Halted halt))
      → GenOutput span p number count
      (status_of_halt halt) (first_lines p count e.lines.turns e.lines.end ++ halt_line halt)

-- What was written: the whole text of the status; or at `status_sink` a first part of such a text,
-- of the lines before the flush, or of the first line, and then no event was made.
pub data GenWrote (span : Span) (p : Point) (number count status : ℕ) (text : List ℕ) : Type 0 where
  whole : GenOutput span p number count status text → GenWrote span p number count status text
  last_line : status ≡ status_sink
      → (code : ℕ) (full rest : List ℕ) → GenOutput span p number count code full
      → full ≡ text ++ rest → GenWrote span p number count status text
  before_flush : status ≡ status_sink → (c : AnswersGenerated span p number count) (rest : List ℕ)
      → first_lines p count c.turns c.end ≡ text ++ rest → GenWrote span p number count status text
  first_line : status ≡ status_sink → span.now ≡ span.start
      → (rest : List ℕ) → begins_with p ≡ text ++ rest → GenWrote span p number count status text

-- What `gen` answers, and where it writes: so many lines of the trace of a number, and a sink.
pub record GenStreams : Type 0 where
  pub number : ℕ
  pub count : ℕ
  pub sink : SinkUse

-- `gen` wrote this text. What it is is known where the rack tells, from each point at which the
-- array stood.
pub record GenRun (seen seen_now : Shown)
    (span : Span) (stood : Point → Type 0) (gen : GenStreams) (status : ℕ) : Type 0 where
  pub text : List ℕ
  pub grows : GrowsByBytes gen.sink.written_before gen.sink.written text
  pub causes : HasGenCauses seen seen_now gen.number gen.count status text
  pub wrote : IsSome span.now
      → (p : Point) → stood p → GenWrote span p gen.number gen.count status text

-- what follows from the first point of a session: the text, and what each stretch leaves, up to any
-- mark
pub record GenFollows
    (span : Span) (number count status : ℕ) (text : List ℕ) (p : Point) : Type 0 where
  pub wrote : GenWrote span p number count status text
  pub left : (mid : Option Trail)
      (events : List Event) (c : Stretch (record span { now = mid }) p events) → IsLeftByStretch c

-- The headline for generated lines.
pub record GenHeadline
    (seen seen_now : Shown) (span : Span) (began : ℕ) (gen : GenStreams) (status : ℕ) : Type 0 where
  pub text : List ℕ
  pub grows : GrowsByBytes gen.sink.written_before gen.sink.written text
  pub causes : HasGenCauses seen seen_now gen.number gen.count status text
  pub said : IsSome span.now → IsMountedFromEach span.slots span.setup began span.start
      (GenFollows span gen.number gen.count status text)
