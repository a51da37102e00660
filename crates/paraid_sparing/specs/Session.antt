-- What a session with spares took, answered and wrote.
use Rattle.std.specs.Prelude.{◌≡◌, ℕ, ◌<◌, ◌≤◌, min, List, [], ◌∷◌, ◌++◌, length, take, Option, IsSome, Result, Ok, Err}
use Rattle.paraid_base.specs.declared.event.Answer.{Answer}
use Rattle.paraid_base.specs.declared.event.Answer.TheVariants.{Flushed, Halted}
use Rattle.paraid_base.specs.declared.event.Event.{Event}
use Rattle.paraid_base.specs.declared.event.Event.TheVariants.{Flush}
use Rattle.paraid_base.specs.Told.{Gives, GrowsByBytes, counter_most}
use Rattle.paraid_io.specs.Lines.{lines_of, whole_lines}
use Rattle.paraid_rack.specs.declared.call.Call.{Call}
use Rattle.paraid_rack.specs.Trail.{Trail}
use Rattle.paraid_serve.specs.declared.stop.Stop.{Stop}
use Rattle.paraid_serve.specs.declared.stop.Stop.TheVariants.{Source, TooLong, Sink, Halt as Halts}
use Rattle.paraid_serve.specs.Causes.{Shown}
use Rattle.paraid_serve.specs.Session.{IsAllTaken}
use Rattle.paraid_serve.specs.Streams.{Streams}
use Rattle.paraid_serve.specs.Stretch.{Span, Stretch, Turn, events_in, turn_calls, turn_with}
use Rattle.paraid_session.specs.Turn.{Point}
use Rattle.paraid_spare.specs.declared.pool.Pool.{Pool}
use Rattle.paraid_spare.specs.Pools.{slot_spin_ups}
use Rattle.paraid_sparing.specs.Serving.{Keeps}
use Rattle.paraid_sparing.specs.SparedCauses.{HaveSparedCauses}
use Rattle.paraid_sparing.specs.Sparing.{AnswersLine, AnswersTrace, Stock}
use Rattle.paraid_sparing.specs.Spinning.{AreBesideOne}
use Rattle.paraid_trace.specs.LineEvents.{event_of}

-- so many spares, no tick waited and no slot spun up
abbrev pub fresh_stock : ℕ → Stock
fresh_stock left = record { left = left; waits = λ d. 0; spins = λ d. 0 }

-- These events of a trace were answered with spares put in, and told by this text: a session went
-- over them from point `p` on, by the calls from one record to another.
pub record Spared (span : Span)
    (wait : ℕ) (p : Point) (k : Stock) (events : List Event) (text : List ℕ) : Type 0 where
  pub put_in : List Event
  pub all : Stretch span p put_in
  pub stock : Stock
  pub answers : AnswersTrace span.slots span.setup wait p k events all.turns text all.end stock
  -- while at most one disk is down no slot was spun up more often than its number
  pub counts : AreBesideOne all.turns → (d : ℕ) → d < 8
      → k.spins d ≡ 0 → min (slot_spin_ups (turn_calls all.turns) d) counter_most ≤ stock.spins d

-- the same, and a flush at last, which is answered so
pub record EndsSpared (span : Span) (wait : ℕ)
    (p : Point) (k : Stock) (events : List Event) (text : List ℕ) (answer : Answer) : Type 0 where
  pub middle : Option Trail
  pub lines : Spared (record span { now = middle }) wait p k events text
  pub all : Stretch span p (lines.put_in ++ Flush ∷ [])
  pub calls : List Call
  pub turns : all.turns ≡ lines.all.turns ++ turn_with Flush answer calls ∷ []
  -- with its calls too
  pub counts : AreBesideOne all.turns → (d : ℕ) → d < 8 → k.spins d ≡ 0
      → min (slot_spin_ups (turn_calls all.turns) d) counter_most ≤ lines.stock.spins d

-- From point `p` on the lines of these bytes were answered up to one, and no line after it. This
-- text tells the lines before it so, and a first part of what is told of it, which is not the
-- whole.
pub record CutsSpared
    (span : Span) (wait : ℕ) (p : Point) (k : Stock) (bytes text : List ℕ) : Type 0 where
  pub before : List (List ℕ)
  pub line : List ℕ
  pub more : List (List ℕ)
  pub split : lines_of bytes ≡ (before ++ line ∷ []) ++ more
  pub front : List ℕ
  pub told : List ℕ
  pub all : Spared span wait p k (events_in (before ++ line ∷ [])) (front ++ told)
  pub turns : List Turn
  pub mid : Point
  pub j : Stock
  pub lines : AnswersTrace span.slots span.setup wait p k (events_in before) turns front mid j
  pub last_turns : List Turn
  pub last : AnswersLine span.slots span.setup wait mid j
      (event_of line) last_turns told all.all.end all.stock
  pub parts : all.all.turns ≡ turns ++ last_turns
  pub count : ℕ
  pub short : count < length told
  pub cut : text ≡ front ++ take count told

-- which lines were answered, and what was written for them, by how the session ended
abbrev pub AreLinesSpared : Span
    → ℕ → Point → Stock → Pool → Result ℕ Stop → List ℕ → List ℕ → Type 0
AreLinesSpared span wait p k pool (Ok writes) bytes text =
    (e : EndsSpared span wait p k (events_in (lines_of bytes)) text (Flushed writes))
    × Keeps pool wait e.lines.stock
AreLinesSpared span wait p k pool (Err (Halts halt)) bytes text =
    (e : EndsSpared span wait p k (events_in (lines_of bytes)) text (Halted halt))
    × Keeps pool wait e.lines.stock
AreLinesSpared span wait p k pool (Err Source) bytes text =
    Spared span wait p k (events_in (whole_lines bytes)) text
AreLinesSpared span wait p k pool (Err TooLong) bytes text =
    Spared span wait p k (events_in (whole_lines bytes)) text
AreLinesSpared span wait p k pool (Err Sink) bytes text = CutsSpared span wait p k bytes text

-- A session took these bytes and wrote this text. What it answered is known where the record is
-- told, from each point at which the array stood.
pub record ServesSpared
    (seen seen_now : Shown) (span : Span) (wait : ℕ) (k : Stock) (stood : Point → Type 0)
    (streams : Streams) (pool : Pool) (result : Result ℕ Stop) : Type 0 where
  pub bytes : List ℕ
  pub text : List ℕ
  pub given : Gives streams.source.left_before streams.source.left bytes
  pub grows : GrowsByBytes streams.sink.written_before streams.sink.written text
  pub full : IsAllTaken result bytes streams.source.left
  pub causes : HaveSparedCauses wait seen k pool result bytes text seen_now
  pub answered : IsSome span.now
      → (p : Point) → stood p → AreLinesSpared span wait p k pool result bytes text
