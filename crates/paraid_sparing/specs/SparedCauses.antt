-- Why a run with spares tells what it tells, whatever the rack holds: a spare exactly where one is
-- due, and each answer by its cause.
use Rattle.std.specs.Prelude.{◌≡◌, ℕ, ◌-◌, ◌<◌, List, [], ◌∷◌, ◌++◌, length, codes, take, Some, None, Result, Ok, Err}
use Rattle.paraid_base.specs.declared.event.Answer.{Answer}
use Rattle.paraid_base.specs.declared.event.Answer.TheVariants.{Flushed, Halted}
use Rattle.paraid_base.specs.declared.event.Event.{Event}
use Rattle.paraid_base.specs.declared.event.Event.TheVariants.{Flush, Replace}
use Rattle.paraid_base.specs.declared.fault.Halt.{Halt}
use Rattle.paraid_io.specs.Lines.{lines_of, whole_lines}
use Rattle.paraid_serve.specs.declared.stop.Stop.{Stop}
use Rattle.paraid_serve.specs.declared.stop.Stop.TheVariants.{Source, TooLong, Sink, Halt as Halts}
use Rattle.paraid_serve.specs.Causes.{HasCause, Shown}
use Rattle.paraid_serve.specs.Ending.{end_line, halt_line, status_of_halt}
use Rattle.paraid_serve.specs.Output.{first_line}
use Rattle.paraid_serve.specs.Statuses.{status_done, status_sink, status_source, status_too_long}
use Rattle.paraid_spare.specs.declared.pool.Pool.{Pool}
use Rattle.paraid_sparing.specs.Serving.{Keeps}
use Rattle.paraid_sparing.specs.Sparing.{Stock, due_when, spare_line, stock_line, stock_when, used}
use Rattle.paraid_trace.specs.LineEvents.{event_of}
use Rattle.paraid_trace.specs.Replies.{reply_of}

-- A line is told so: by the answer to its event alone where no spare is due before it, and else
-- after what came of the spare. Each answer has its cause.
pub data HasLineCauses (wait : ℕ) (old : Shown) (k : Stock) (event : Event) : List ℕ
    → Shown → Stock → Type 0 where
  alone : (answer : Answer) (new : Shown) → due_when wait k old.halt old.meta.out event ≡ None
      → HasCause old event answer new → HasLineCauses wait old k event
      (reply_of answer) new (stock_when k answer new.halt new.meta.out)
  spared : (d : ℕ) (spare answer : Answer) (mid new : Shown)
      → due_when wait k old.halt old.meta.out event ≡ Some d
      → HasCause old (Replace d) spare mid → HasCause mid event answer new
      → HasLineCauses wait old k event (spare_line spare (k.left - 1) ++ reply_of answer) new
      (stock_when (used k) answer new.halt new.meta.out)

-- these lines are, one after the other
pub data HaveLineCauses (wait : ℕ) (old : Shown) (k : Stock) : List (List ℕ)
    → List ℕ → Shown → Stock → Type 0 where
  none : HaveLineCauses wait old k [] [] old k
  more : (lines : List (List ℕ)) (text : List ℕ) (mid : Shown) (j : Stock)
      → HaveLineCauses wait old k lines text mid j → (line told : List ℕ) (new : Shown) (i : Stock)
      → HasLineCauses wait mid j (event_of line) told new i
      → HaveLineCauses wait old k (lines ++ line ∷ []) (text ++ told) new i

-- a line is told so, and the pool keeps the stock after it
pub record CausesLine (wait : ℕ) (old : Shown)
    (k : Stock) (event : Event) (text : List ℕ) (new : Shown) (pool : Pool) : Type 0 where
  pub stock : Stock
  pub line : HasLineCauses wait old k event text new stock
  pub keeps : Keeps pool wait stock

-- these lines are, and it keeps the stock after them
pub record CausesLines (wait : ℕ) (old : Shown)
    (k : Stock) (lines : List (List ℕ)) (text : List ℕ) (new : Shown) (pool : Pool) : Type 0 where
  pub stock : Stock
  pub all : HaveLineCauses wait old k lines text new stock
  pub keeps : Keeps pool wait stock

-- these lines have their causes, and then a flush is answered with its cause
pub record CausesFlush (wait : ℕ) (old : Shown) (k : Stock) (lines : List (List ℕ))
    (text : List ℕ) (answer : Answer) (new : Shown) (pool : Pool) : Type 0 where
  pub mid : Shown
  pub before : CausesLines wait old k lines text mid pool
  pub cause : HasCause mid Flush answer new

-- A text that tells some lines so, and a first part of what is told of the next one, which is not
-- the whole. After that one no line was served.
pub record BeginsCauses
    (wait : ℕ) (old : Shown) (k : Stock) (bytes text : List ℕ) (new : Shown) : Type 0 where
  pub before : List (List ℕ)
  pub line : List ℕ
  pub more : List (List ℕ)
  pub split : lines_of bytes ≡ (before ++ line ∷ []) ++ more
  pub front : List ℕ
  pub mid : Shown
  pub j : Stock
  pub all : HaveLineCauses wait old k before front mid j
  pub told : List ℕ
  pub i : Stock
  pub last : HasLineCauses wait mid j (event_of line) told new i
  pub count : ℕ
  pub short : count < length told
  pub cut : text ≡ front ++ take count told

-- the causes of what was written for the lines, by how the session ended, and the pool keeps the
-- stock after them; all lines are followed by a flush
abbrev pub HaveSparedCauses : ℕ
    → Shown → Stock → Pool → Result ℕ Stop → List ℕ → List ℕ → Shown → Type 0
HaveSparedCauses wait old k pool (Ok writes) bytes text new =
    CausesFlush wait old k (lines_of bytes) text (Flushed writes) new pool
HaveSparedCauses wait old k pool (Err (Halts halt)) bytes text new =
    CausesFlush wait old k (lines_of bytes) text (Halted halt) new pool
HaveSparedCauses wait old k pool (Err Source) bytes text new =
    CausesLines wait old k (whole_lines bytes) text new pool
HaveSparedCauses wait old k pool (Err TooLong) bytes text new =
    CausesLines wait old k (whole_lines bytes) text new pool
HaveSparedCauses wait old k pool (Err Sink) bytes text new =
    (b : BeginsCauses wait old k bytes text new) × Keeps pool wait b.i

-- The whole text of a run with spares by its status, with the cause of each answer, of each spare
-- and of the flush at the end: what stands before the last lines, and the last lines.
pub data CausedText (wait : ℕ) (old : Shown) (k : Stock) (new : Shown) (bytes : List ℕ) : ℕ
    → List ℕ → List ℕ → Type 0 where
  done : (writes : ℕ) (text : List ℕ) (mid : Shown) (j : Stock)
      → HaveLineCauses wait old k (lines_of bytes) text mid j
      → HasCause mid Flush (Flushed writes) new → CausedText wait old k new bytes status_done
      (first_line old ++ text) (stock_line j old.setup ++ end_line writes)
  halted : (halt : Halt) (text : List ℕ) (mid : Shown) (j : Stock)
      → HaveLineCauses wait old k (lines_of bytes) text mid j
      → HasCause mid Flush (Halted halt) new → CausedText wait old k new bytes
      (status_of_halt halt) (first_line old ++ text) (stock_line j old.setup ++ halt_line halt)
  source : (text : List ℕ) (j : Stock) → HaveLineCauses wait old k (whole_lines bytes) text new j
      → CausedText wait old k new bytes status_source (first_line old ++ text) (codes "source\n")
  too_long : (text : List ℕ) (j : Stock) → HaveLineCauses wait old k (whole_lines bytes) text new j
      → CausedText wait old k new bytes status_too_long (first_line old ++ text) (codes "toolong\n")

-- What was written, with its causes: a whole text; or at `status_sink` one whose last lines are
-- cut, or a first part of the first line, and then nothing was served; or what tells the lines up
-- to one that is cut, and then nothing more was served. Of what is cut a first part stands that is
-- not the whole.
pub data HasSparedCauses (wait : ℕ) (old : Shown)
    (k : Stock) (new : Shown) (bytes : List ℕ) (status : ℕ) (text : List ℕ) : Type 0 where
  whole : (front last : List ℕ) → CausedText wait old k new bytes status front last
      → text ≡ front ++ last → HasSparedCauses wait old k new bytes status text
  last_lines : status ≡ status_sink → (code : ℕ) (front last : List ℕ) (count : ℕ)
      → CausedText wait old k new bytes code front last → (count < length last)
      × (text ≡ front ++ take count last) → HasSparedCauses wait old k new bytes status text
  at_first_line : status ≡ status_sink → bytes ≡ [] → new ≡ old
      → (count : ℕ) → (count < length (first_line old)) × (text ≡ take count (first_line old))
      → HasSparedCauses wait old k new bytes status text
  answers : status ≡ status_sink → (part : List ℕ) → BeginsCauses wait old k bytes part new
      → text ≡ first_line old ++ part → HasSparedCauses wait old k new bytes status text
