-- The whole text of a run, by its status.
use Rattle.std.specs.Prelude.{◌≡◌, ℕ, ◌<◌, ◌^◌, List, [], ◌∷◌, ◌++◌, length, take, codes, Option, Some, IsSome}
use Rattle.paraid_base.specs.declared.event.Answer.TheVariants.{Flushed, Halted}
use Rattle.paraid_base.specs.declared.event.Event.TheVariants.{Flush}
use Rattle.paraid_base.specs.declared.fault.Halt.{Halt}
use Rattle.paraid_base.specs.declared.fault.Halt.TheVariants.{Two as HaltTwo}
use Rattle.paraid_base.specs.Told.{AtEnd, Gives, GrowsByBytes, stream_most}
use Rattle.paraid_serve.specs.Ending.{end_line, halt_line, mount_line, status_of_halt}
use Rattle.paraid_io.specs.Lines.{lines_of, whole_lines}
use Rattle.paraid_rack.specs.Trail.{Trail, now}
use Rattle.paraid_base.specs.declared.event.Event.{Event}
use Rattle.paraid_base.specs.declared.fault.Two.{Two}
use Rattle.paraid_image.specs.Out.{named_out}
use Rattle.paraid_image.specs.Rest.{AreSynced}
use Rattle.paraid_image.specs.RunStart.{IsRunStart}
use Rattle.paraid_session.specs.Mount.{IsMountedFromEach}
use Rattle.paraid_serve.specs.Causes.{HasCause, Shown}
use Rattle.paraid_serve.specs.Form.{BeginsAnswers, HasAnswers}
use Rattle.paraid_serve.specs.Session.{CutsAnswers}
use Rattle.paraid_serve.specs.Streams.{Streams}
use Rattle.paraid_serve.specs.Stretch.{EndsStretch, Span, Stretch, events_in, replies}
use Rattle.paraid_serve.specs.Statuses.{IsOneOf, status_done, status_sink, status_source, status_too_long, status_two, status_worn}
use Rattle.paraid_session.specs.Turn.{Point}

-- the statuses of a run on an array that is mounted
abbrev pub IsServedStatus : ℕ → Type 0
IsServedStatus status = IsOneOf (status_done
    ∷ status_source ∷ status_sink ∷ status_two ∷ status_too_long ∷ status_worn ∷ []) status

-- those of a run that took all of the source
abbrev pub IsWholeStatus : ℕ → Type 0
IsWholeStatus status = IsOneOf (status_done ∷ status_two ∷ status_worn ∷ []) status

-- the line of the first point of a session
abbrev pub begins_with : Point → List ℕ
begins_with p = mount_line (length p.history) p.state.gear

-- the line of an array that is seen so as it begins
abbrev pub first_line : Shown → List ℕ
first_line x = mount_line x.meta.writes x.meta.gear

-- The text of a run that took these bytes and met no fault of the sink, by its status: what stands
-- before the last line, and the last line.
pub data OutputText (span : Span) (p : Point) (bytes : List ℕ) : ℕ → List ℕ → List ℕ → Type 0 where
  -- every line is answered, and all writes are kept
  done : (writes : ℕ)
      (e : EndsStretch span p (events_in (lines_of bytes) ++ Flush ∷ []) (Flushed writes))
      → OutputText span p bytes status_done (begins_with p ++ replies e.before) (end_line writes)
  -- every line is answered, and a halt came in one of them or in the last flush
  halted : (halt : Halt)
      (e : EndsStretch span p (events_in (lines_of bytes) ++ Flush ∷ []) (Halted halt))
      → OutputText span p bytes
      (status_of_halt halt) (begins_with p ++ replies e.before) (halt_line halt)
  -- a rest without a newline is not answered
  source : (c : Stretch span p (events_in (whole_lines bytes)))
      → OutputText span p bytes status_source (begins_with p ++ replies c.turns) (codes "source\n")
  too_long : length bytes ≡ stream_most → (c : Stretch span p (events_in (whole_lines bytes)))
      → OutputText span p bytes status_too_long
      (begins_with p ++ replies c.turns) (codes "toolong\n")

-- What was written: the whole text of the status; or at `status_sink` one whose last line is cut,
-- or a first part of the first line, and then nothing was served; or the answers up to one that is
-- cut, and then no line after it was served. Of what is cut a first part stands that is not the
-- whole.
pub data WritesOutput
    (span : Span) (p : Point) (bytes : List ℕ) (status : ℕ) (text : List ℕ) : Type 0 where
  whole : (front last : List ℕ) → OutputText span p bytes status front last
      → text ≡ front ++ last → WritesOutput span p bytes status text
  last_line : status ≡ status_sink → (code : ℕ) (front last : List ℕ) (count : ℕ)
      → OutputText span p bytes code front last → (count < length last)
      × (text ≡ front ++ take count last) → WritesOutput span p bytes status text
  at_first_line : status ≡ status_sink → bytes ≡ [] → Stretch span p []
      → (count : ℕ) → (count < length (begins_with p)) × (text ≡ take count (begins_with p))
      → WritesOutput span p bytes status text
  answers : status ≡ status_sink → (part : List ℕ) → CutsAnswers span p bytes part
      → text ≡ begins_with p ++ part → WritesOutput span p bytes status text

-- The form of a whole text, by the status, whatever the rack holds: what stands before the last
-- line, and the last line. The first line tells the writes and the gear with which the array was
-- seen first, each answer has its cause, and so has the flush at the end.
pub data OutputForm (old new : Shown) (bytes : List ℕ) : ℕ → List ℕ → List ℕ → Type 0 where
  done : (writes : ℕ) (replies : List ℕ) (mid : Shown)
      → HasAnswers old (lines_of bytes) replies mid → HasCause mid Flush (Flushed writes) new
      → OutputForm old new bytes status_done (first_line old ++ replies) (end_line writes)
  halted : (halt : Halt) (replies : List ℕ) (mid : Shown)
      → HasAnswers old (lines_of bytes) replies mid → HasCause mid Flush (Halted halt) new
      → OutputForm old new bytes (status_of_halt halt) (first_line old ++ replies) (halt_line halt)
  source : (replies : List ℕ) → HasAnswers old (whole_lines bytes) replies new
      → OutputForm old new bytes status_source (first_line old ++ replies) (codes "source\n")
  too_long : (replies : List ℕ) → HasAnswers old (whole_lines bytes) replies new
      → OutputForm old new bytes status_too_long (first_line old ++ replies) (codes "toolong\n")

-- The form of what was written: of a whole text; or at `status_sink` of one whose last line is cut,
-- or of a first part of the first line, and then nothing was served; or of the answers up to one
-- that is cut, and then nothing more was served. Of what is cut a first part stands that is not the
-- whole.
pub data HasForm (old new : Shown) (bytes : List ℕ) (status : ℕ) (text : List ℕ) : Type 0 where
  whole : (front last : List ℕ) → OutputForm old new bytes status front last
      → text ≡ front ++ last → HasForm old new bytes status text
  last_line : status ≡ status_sink → (code : ℕ) (front last : List ℕ) (count : ℕ)
      → OutputForm old new bytes code front last → (count < length last)
      × (text ≡ front ++ take count last) → HasForm old new bytes status text
  at_first_line : status ≡ status_sink → bytes ≡ [] → new ≡ old
      → (count : ℕ) → (count < length (first_line old)) × (text ≡ take count (first_line old))
      → HasForm old new bytes status text
  answers : status ≡ status_sink → (part : List ℕ) → BeginsAnswers old bytes part new
      → text ≡ first_line old ++ part → HasForm old new bytes status text

-- A run took these bytes and wrote this text. What it is is known where source, sink and rack
-- tell, from each point at which the array stood.
pub record ProgramRun (seen seen_now : Shown)
    (span : Span) (stood : Point → Type 0) (streams : Streams) (status : ℕ) : Type 0 where
  pub bytes : List ℕ
  pub text : List ℕ
  pub given : Gives streams.source.left_before streams.source.left bytes
  pub grows : GrowsByBytes streams.sink.written_before streams.sink.written text
  pub full : status ≡ status_too_long → length bytes ≡ stream_most
  pub all : IsWholeStatus status → (length bytes < stream_most) × AtEnd streams.source.left
  pub form : HasForm seen seen_now bytes status text
  pub wrote : IsSome span.now → (p : Point) → stood p → WritesOutput span p bytes status text

-- What a stretch of a session leaves: two disks are down; or the rack holds the history of its end,
-- so that the next run begins on a rack that held a history.
pub data IsLeftByStretch
    {span : Span} {p : Point} {events : List Event} (c : Stretch span p events) : Type 0 where
  two_down : (pair : Two) → c.end.halt ≡ Some (HaltTwo pair) → IsLeftByStretch c
  rests : IsRunStart span.slots (now c.to) c.end.history c.end.low (named_out c.end.state.out)
      → IsLeftByStretch c

-- What follows from the first point of a session: the text; what each stretch leaves, up to any
-- mark (what a stop within one leaves, each turn says); and after a run that ends well no block of
-- a disk that is there is loose, so no stop changes one.
pub record FollowsFromPoint
    (span : Span) (bytes : List ℕ) (status : ℕ) (text : List ℕ) (p : Point) : Type 0 where
  pub wrote : WritesOutput span p bytes status text
  pub left : (mid : Option Trail)
      (events : List Event) (c : Stretch (record span { now = mid }) p events) → IsLeftByStretch c
  pub synced : status ≡ status_done → (t : Trail) → span.now ≡ Some t → AreSynced (now t)

-- The headline. The run took these bytes, and its text has the form of a run's. On a rack that held
-- a history the mount keeps it; and from its end on, unless two disks are down there, the text is
-- what a session answers, and the run leaves such a rack.
pub record Headline (seen seen_now : Shown)
    (span : Span) (began : ℕ) (streams : Streams) (status : ℕ) : Type 0 where
  pub bytes : List ℕ
  pub text : List ℕ
  pub given : Gives streams.source.left_before streams.source.left bytes
  pub grows : GrowsByBytes streams.sink.written_before streams.sink.written text
  pub full : status ≡ status_too_long → length bytes ≡ stream_most
  pub all : IsWholeStatus status → (length bytes < stream_most) × AtEnd streams.source.left
  pub form : HasForm seen seen_now bytes status text
  pub said : IsSome span.now → IsMountedFromEach span.slots span.setup began span.start
      (FollowsFromPoint span bytes status text)
