-- What a session took, answered and wrote.
use Rattle.std.specs.Prelude.{◌≡◌, ℕ, ◌^◌, ◌<◌, List, [], ◌∷◌, ◌++◌, length, take, Option, Some, IsSome, Result, Ok, Err}
use Rattle.paraid_base.specs.declared.event.Answer.{Answer}
use Rattle.paraid_base.specs.declared.event.Answer.TheVariants.{Flushed, Halted}
use Rattle.paraid_base.specs.declared.event.Event.TheVariants.{Flush}
use Rattle.paraid_base.specs.Told.{AtEnd, Gives, GrowsByBytes, stream_most}
use Rattle.paraid_io.specs.Lines.{lines_of, whole_lines}
use Rattle.paraid_rack.specs.Slots.{Slot}
use Rattle.paraid_serve.specs.declared.stop.Stop.{Stop}
use Rattle.paraid_serve.specs.declared.stop.Stop.TheVariants.{Source, TooLong, Sink, Halt as Halts}
use Rattle.paraid_serve.specs.Lost.{HaltsBySecondLoss, HaltsByWear}
use Rattle.paraid_serve.specs.Causes.{HasCause, Shown}
use Rattle.paraid_serve.specs.Form.{BeginsAnswers, HasAnswers}
use Rattle.paraid_serve.specs.Streams.{Streams}
use Rattle.paraid_serve.specs.Stretch.{EndsStretch, Span, Stretch, events_in, replies}
use Rattle.paraid_session.specs.Turn.{Point}
use Rattle.paraid_trace.specs.Replies.{reply_of}

-- From a point on the lines of these bytes were answered up to one, and no line after it. This text
-- is the answers to the lines before it, and a first part of its own, which is not the whole.
pub record CutsAnswers (span : Span) (p : Point) (bytes text : List ℕ) : Type 0 where
  pub before : List (List ℕ)
  pub line : List ℕ
  pub more : List (List ℕ)
  pub split : lines_of bytes ≡ (before ++ line ∷ []) ++ more
  pub answer : Answer
  pub ends : EndsStretch span p (events_in (before ++ line ∷ [])) answer
  pub count : ℕ
  pub short : count < length (reply_of answer)
  pub cut : text ≡ replies ends.before ++ take count (reply_of answer)

-- which lines were answered, and what was written for them, by how the session ended
abbrev pub AreLinesAnswered : Span → Point → Result ℕ Stop → List ℕ → List ℕ → Type 0
-- all lines, and a flush
AreLinesAnswered span p (Ok writes) bytes text =
    (e : EndsStretch span p (events_in (lines_of bytes) ++ Flush ∷ []) (Flushed writes))
    × (text ≡ replies e.before)
AreLinesAnswered span p (Err (Halts halt)) bytes text =
    (e : EndsStretch span p (events_in (lines_of bytes) ++ Flush ∷ []) (Halted halt))
    × (text ≡ replies e.before)
-- those that end with a newline
AreLinesAnswered span p (Err Source) bytes text =
    (c : Stretch span p (events_in (whole_lines bytes))) × (text ≡ replies c.turns)
AreLinesAnswered span p (Err TooLong) bytes text =
    (c : Stretch span p (events_in (whole_lines bytes))) × (text ≡ replies c.turns)
-- those to the one whose answer could not be written whole
AreLinesAnswered span p (Err Sink) bytes text = CutsAnswers span p bytes text

-- the form of what was written for the lines, by how the session ended, and the cause of each
-- answer; all lines are followed by a flush
abbrev pub HaveLinesForm : Shown → Result ℕ Stop → List ℕ → List ℕ → Shown → Type 0
HaveLinesForm old (Ok writes) bytes text new = (mid : Shown)
    × HasAnswers old (lines_of bytes) text mid × HasCause mid Flush (Flushed writes) new
HaveLinesForm old (Err (Halts halt)) bytes text new =
    (mid : Shown) × HasAnswers old (lines_of bytes) text mid × HasCause mid Flush (Halted halt) new
HaveLinesForm old (Err Source) bytes text new = HasAnswers old (whole_lines bytes) text new
HaveLinesForm old (Err TooLong) bytes text new = HasAnswers old (whole_lines bytes) text new
HaveLinesForm old (Err Sink) bytes text new = BeginsAnswers old bytes text new

-- how much was taken: all of the source, or all that may be taken
abbrev pub IsAllTaken : Result ℕ Stop → List ℕ → Option (List ℕ) → Type 0
IsAllTaken (Ok writes) bytes left = (length bytes < stream_most) × AtEnd left
IsAllTaken (Err (Halts halt)) bytes left = (length bytes < stream_most) × AtEnd left
IsAllTaken (Err TooLong) bytes left = length bytes ≡ stream_most
IsAllTaken (Err Source) bytes left = Unit {0}
IsAllTaken (Err Sink) bytes left = Unit {0}

-- a halt that ends a session and names two disks has come of the failure of the second one in it
abbrev pub IsStopOfFailed : (ℕ → Slot) → (ℕ → Slot) → Stop → Type 0
IsStopOfFailed old new (Halts halt) = HaltsBySecondLoss old new (Some halt)
IsStopOfFailed old new Source = Unit {0}
IsStopOfFailed old new TooLong = Unit {0}
IsStopOfFailed old new Sink = Unit {0}

-- a halt that ends a session and tells wear tells 2^62 commits or writes, or more
abbrev pub IsStopByWear : Stop → Type 0
IsStopByWear (Halts halt) = HaltsByWear (Some halt)
IsStopByWear Source = Unit {0}
IsStopByWear TooLong = Unit {0}
IsStopByWear Sink = Unit {0}

-- A session took these bytes and wrote this text. What it answered is known where the record is
-- told, from each point at which the array stood.
pub record ServesSession (seen seen_now : Shown) (span : Span)
    (stood : Point → Type 0) (streams : Streams) (result : Result ℕ Stop) : Type 0 where
  pub bytes : List ℕ
  pub text : List ℕ
  pub given : Gives streams.source.left_before streams.source.left bytes
  pub grows : GrowsByBytes streams.sink.written_before streams.sink.written text
  pub full : IsAllTaken result bytes streams.source.left
  pub form : HaveLinesForm seen result bytes text seen_now
  pub answered : IsSome span.now → (p : Point) → stood p → AreLinesAnswered span p result bytes text
