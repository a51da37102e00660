-- The whole text of a run with spares, by its status.
use Rattle.std.specs.Prelude.{◌≡◌, ℕ, ◌<◌, ◌^◌, List, [], ◌++◌, length, take, codes, Option, Some, IsSome}
use Rattle.paraid_base.specs.declared.event.Answer.TheVariants.{Flushed, Halted}
use Rattle.paraid_base.specs.declared.event.Event.{Event}
use Rattle.paraid_base.specs.declared.fault.Halt.{Halt}
use Rattle.paraid_base.specs.Told.{AtEnd, Gives, GrowsByBytes, stream_most}
use Rattle.paraid_io.specs.Lines.{lines_of, whole_lines}
use Rattle.paraid_image.specs.Rest.{AreSynced}
use Rattle.paraid_rack.specs.Trail.{Trail, now}
use Rattle.paraid_serve.specs.Causes.{Shown}
use Rattle.paraid_serve.specs.Ending.{end_line, halt_line, status_of_halt}
use Rattle.paraid_serve.specs.Output.{IsLeftByStretch, IsWholeStatus, begins_with}
use Rattle.paraid_serve.specs.Streams.{Streams}
use Rattle.paraid_serve.specs.Stretch.{Span, Stretch, events_in}
use Rattle.paraid_serve.specs.Statuses.{status_done, status_sink, status_source, status_too_long}
use Rattle.paraid_session.specs.Mount.{IsMountedFromEach}
use Rattle.paraid_session.specs.Turn.{Point}
use Rattle.paraid_sparing.specs.Session.{CutsSpared, EndsSpared, Spared}
use Rattle.paraid_sparing.specs.SparedCauses.{HasSparedCauses}
use Rattle.paraid_sparing.specs.Sparing.{Supply, stock_line}

-- The text of a run that took these bytes and met no fault of the sink, by its status: what stands
-- before the last lines, and the last lines.
pub data SparedText (span : Span) (supply : Supply) (p : Point) (bytes : List ℕ) : ℕ
    → List ℕ → List ℕ → Type 0 where
  -- every line is answered, and all writes are kept
  done : (writes : ℕ) (text : List ℕ) (e : EndsSpared span supply.wait p supply.stock
      (events_in (lines_of bytes)) text (Flushed writes))
      → SparedText span supply p bytes status_done
      (begins_with p ++ text) (stock_line e.lines.stock span.setup ++ end_line writes)
  -- every line is answered, and a halt came in one of them or in the last flush
  halted : (halt : Halt) (text : List ℕ) (e
      : EndsSpared span supply.wait p supply.stock (events_in (lines_of bytes)) text (Halted halt))
      → SparedText span supply p bytes (status_of_halt halt)
      (begins_with p ++ text) (stock_line e.lines.stock span.setup ++ halt_line halt)
  -- a rest without a newline is not answered
  source : (text : List ℕ)
      → Spared span supply.wait p supply.stock (events_in (whole_lines bytes)) text
      → SparedText span supply p bytes status_source (begins_with p ++ text) (codes "source\n")
  too_long : length bytes ≡ stream_most → (text : List ℕ)
      → Spared span supply.wait p supply.stock (events_in (whole_lines bytes)) text
      → SparedText span supply p bytes status_too_long (begins_with p ++ text) (codes "toolong\n")

-- What was written: the whole text of the status; or at `status_sink` one whose last lines are cut,
-- or a first part of the first line, and then nothing was served; or what tells the lines up to one
-- that is cut, and then no line after it was served. Of what is cut a first part stands that is not
-- the whole.
pub data WritesSpared (span : Span)
    (supply : Supply) (p : Point) (bytes : List ℕ) (status : ℕ) (text : List ℕ) : Type 0 where
  whole : (front last : List ℕ) → SparedText span supply p bytes status front last
      → text ≡ front ++ last → WritesSpared span supply p bytes status text
  last_lines : status ≡ status_sink → (code : ℕ) (front last : List ℕ) (count : ℕ)
      → SparedText span supply p bytes code front last → (count < length last)
      × (text ≡ front ++ take count last) → WritesSpared span supply p bytes status text
  at_first_line : status ≡ status_sink → bytes ≡ [] → Stretch span p []
      → (count : ℕ) → (count < length (begins_with p)) × (text ≡ take count (begins_with p))
      → WritesSpared span supply p bytes status text
  answers : status ≡ status_sink
      → (part : List ℕ) → CutsSpared span supply.wait p supply.stock bytes part
      → text ≡ begins_with p ++ part → WritesSpared span supply p bytes status text

-- A run took these bytes and wrote this text. What it is is known where source, sink and rack tell,
-- from each point at which the array stood.
pub record SparedRun (seen seen_now : Shown) (span : Span)
    (supply : Supply) (stood : Point → Type 0) (streams : Streams) (status : ℕ) : Type 0 where
  pub bytes : List ℕ
  pub text : List ℕ
  pub given : Gives streams.source.left_before streams.source.left bytes
  pub grows : GrowsByBytes streams.sink.written_before streams.sink.written text
  pub full : status ≡ status_too_long → length bytes ≡ stream_most
  pub all : IsWholeStatus status → (length bytes < stream_most) × AtEnd streams.source.left
  pub causes : HasSparedCauses supply.wait seen supply.stock seen_now bytes status text
  pub wrote : IsSome span.now → (p : Point) → stood p → WritesSpared span supply p bytes status text

-- what follows from the first point of a session: the text, what each stretch leaves, up to any
-- mark, and that after a run that ends well nothing is loose
pub record FollowsSpared (span : Span)
    (supply : Supply) (bytes : List ℕ) (status : ℕ) (text : List ℕ) (p : Point) : Type 0 where
  pub wrote : WritesSpared span supply p bytes status text
  pub left : (mid : Option Trail)
      (events : List Event) (c : Stretch (record span { now = mid }) p events) → IsLeftByStretch c
  pub synced : status ≡ status_done → (t : Trail) → span.now ≡ Some t → AreSynced (now t)

-- The headline for a run with spares.
pub record SparedHeadline (seen seen_now : Shown)
    (span : Span) (supply : Supply) (began : ℕ) (streams : Streams) (status : ℕ) : Type 0 where
  pub bytes : List ℕ
  pub text : List ℕ
  pub given : Gives streams.source.left_before streams.source.left bytes
  pub grows : GrowsByBytes streams.sink.written_before streams.sink.written text
  pub full : status ≡ status_too_long → length bytes ≡ stream_most
  pub all : IsWholeStatus status → (length bytes < stream_most) × AtEnd streams.source.left
  pub causes : HasSparedCauses supply.wait seen supply.stock seen_now bytes status text
  pub said : IsSome span.now → IsMountedFromEach span.slots span.setup began span.start
      (FollowsSpared span supply bytes status text)
