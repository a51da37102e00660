-- What a session of volumes promises.
use Rattle.std.specs.Prelude.{◌≡◌, ℕ, ◌+◌, ◌<◌, ◌≤◌, ◌^◌, ◌⊎◌, List, [], ◌∷◌, ◌++◌, length, take, codes, Option, Some, None, IsSome}
use Rattle.paraid_base.specs.Told.{AtEnd, Gives, GrowsByBytes, stream_most}
use Rattle.paraid_base.specs.declared.event.Answer.{Answer}
use Rattle.paraid_base.specs.declared.event.Answer.TheVariants.{Flushed, Halted}
use Rattle.paraid_base.specs.declared.event.Event.TheVariants.{Flush}
use Rattle.paraid_base.specs.declared.event.Event.{Event}
use Rattle.paraid_base.specs.declared.fault.Halt.{Halt}
use Rattle.paraid_base.specs.BlockAnswers.{Answers}
use Rattle.paraid_base.specs.History.{History, after, after_all}
use Rattle.paraid_session.specs.Mount.{IsMountedFromEach}
use Rattle.paraid_io.specs.Lines.{lines_of, whole_lines}
use Rattle.paraid_machine.specs.Machine.{block_count}
use Rattle.paraid_device.specs.Devices.{AreBlockEvents, HaveAnswerCauses, answers_in}
use Rattle.paraid_image.specs.Rest.{AreSynced}
use Rattle.paraid_rack.specs.Trail.{Trail, now}
use Rattle.paraid_serve.specs.Causes.{Shown}
use Rattle.paraid_serve.specs.Ending.{end_line, halt_line, status_of_halt}
use Rattle.paraid_serve.specs.Output.{IsLeftByStretch, IsWholeStatus, begins_with}
use Rattle.paraid_serve.specs.Streams.{Streams}
use Rattle.paraid_serve.specs.Stretch.{Span, Stretch}
use Rattle.paraid_serve.specs.Statuses.{status_done, status_sink, status_source, status_too_long}
use Rattle.paraid_session.specs.Turn.{Point}
use Rattle.paraid_volume.specs.Device.{AreAll, IsReadEvent, entries_in}
use Rattle.paraid_volume.specs.Lives.{IsLeftByLife, Life, VolLog, flushed}
use Rattle.paraid_volume.specs.States.{ShowsVolumes, VolumeState}
use Rattle.paraid_volume.specs.Tables.{IsVolumeTable}
use Rattle.paraid_volume_lines.specs.Grammar.{VolLine}
use Rattle.paraid_service.specs.VolumeForms.{HasVolumesForm}
use Rattle.paraid_service.specs.VolumeLines.{Held, IsEventOf, LinesStep}

-- what the blocks of an array hold: volumes in this state, or no table
pub data Holds (count : ℕ) (content : ℕ → _) : Held → Type 0 where
  volumes : (s : VolumeState) → ShowsVolumes count content s → Holds count content (Some s)
  no_table : (7 ≤ count → IsVolumeTable count content → ⊥) → Holds count content None

-- what was held at first; it is not known where the table could not be read for a halt
pub data BeginsWith (count : ℕ) (content : ℕ → _) : Held → Option Halt → Type 0 where
  known : (s : Held) → Holds count content s → BeginsWith count content s None
  unknown : (halt : Halt) → BeginsWith count content None (Some halt)

-- an event is one of these
pub record HasEvent (events : Answers) (event : Event × Answer) : Type 0 where
  pub before : Answers
  pub after : Answers
  pub parts : events ≡ before ++ event ∷ after

-- each flush of these calls that was answered is one of the events
abbrev pub AreFlushesKept : VolLog → Answers → Type 0
AreFlushesKept [] events = Unit {0}
AreFlushesKept (pair ∷ log) events =
    ((number : ℕ) → pair.1 ≡ flushed number → HasEvent events (Flush, Flushed number))
    × AreFlushesKept log events

-- how many writes there are as a life begins: the table's own is one more where there was none
abbrev pub life_start : Held → History → ℕ
life_start (Some s) h = length h
life_start None h = length h + 1

-- The writes among the events are those of a life of volumes, from the table that was held at first
-- or from the one write of `init` on, and each flush of that life is one of the events; or no table
-- is held, and nothing was written.
pub data IsLifeOf (count : ℕ) (h : History) (first : Held) (made : Answers) : Held
    → VolLog → Type 0 where
  lives : (s : VolumeState) (log : VolLog)
      → Life count (life_start first h) (h ++ entries_in made) s log
      → AreFlushesKept log made → IsLifeOf count h first made (Some s) log
  waits : first ≡ None → entries_in made ≡ [] → IsLifeOf count h first made None []

-- The events of the call in which a halt came. A halt in a line: events of the kind of this line. A
-- halt before any line: reads. No halt: none.
abbrev pub AreOfHalt : Option Halt → Option VolLine → Answers → Type 0
AreOfHalt begun (Some asked) rest = AreAll (IsEventOf asked) rest
AreOfHalt (Some halt) None rest = AreAll IsReadEvent rest
AreOfHalt None None rest = rest ≡ []

-- Lines of `vol` were answered: by the steps of volumes, up to the first halt. Up to it the events
-- that the array kept are those of a life; the others are those of the call in which it came.
pub record AnswersLines (count : ℕ) (h : History) (lines : List (List ℕ))
    (front reply : List ℕ) (events : Answers) (halt : Option Halt) : Type 0 where
  pub first : Held
  pub begun : Option Halt
  pub begins : BeginsWith count (after_all h) first begun
  pub log : VolLog
  pub last : Held
  pub cut : Option VolLine
  pub steps : LinesStep count first begun lines front reply log last halt cut
  pub before : Answers
  pub rest : Answers
  pub parts : events ≡ before ++ rest
  pub came : AreOfHalt begun cut rest
  pub life : IsLifeOf count h first before last log

-- each flush of these calls that was answered tells at most `low` writes
abbrev pub AreFlushedWithin : ℕ → VolLog → Type 0
AreFlushedWithin low [] = Unit {0}
AreFlushedWithin low (pair ∷ log) =
    ((number : ℕ) → pair.1 ≡ flushed number → number ≤ low) × AreFlushedWithin low log

-- What a stop leaves of volumes, where each stop keeps `low` of these writes. After the first `k`
-- writes, from `start` on, the volumes are those after a first part of the calls, with each call
-- before a flush that tells at most `k`; and no flush tells more than `low`.
pub record LeavesVolumes (count start low : ℕ) (written : History) (log : VolLog) : Type 0 where
  pub left : (k : ℕ) → start ≤ k → k ≤ length written → IsLeftByLife count start written k log
  pub flushed : AreFlushedWithin low log

-- no flush among these calls was answered
abbrev pub HasNoFlush : VolLog → Type 0
HasNoFlush [] = Unit {0}
HasNoFlush (pair ∷ log) = ((number : ℕ) → pair.1 ≡ flushed number → ⊥) × HasNoFlush log

-- After the first `k` writes the volumes are those after a first part of the calls, and no call
-- before a flush is missing. That part is a life over `past`, and `past` is a first part of the
-- writes.
pub record LeavesFlushed (count start : ℕ) (written : History) (k : ℕ) (log : VolLog) : Type 0 where
  pub done : VolLog
  pub rest : VolLog
  pub parts : log ≡ done ++ rest
  pub past : History
  pub later : History
  pub begins : written ≡ past ++ later
  pub state : VolumeState
  pub lived : Life count start past state done
  pub shows : ShowsVolumes count (after written k) state
  pub flushed_all : HasNoFlush rest

-- what a stop leaves, by `LeavesVolumes`, where the array holds a table; nothing is said where it
-- holds none
abbrev pub LeavesHeld : ℕ → ℕ → ℕ → History → Held → VolLog → Type 0
LeavesHeld count start low written (Some s) log = LeavesVolumes count start low written log
LeavesHeld count start low written None log = Unit {0}

-- Lines of `vol` were answered from point p of a session on: these reads, writes and flushes and no
-- other events are those of the array, its halt is that of the lines, and unless it has halted each
-- stop leaves the volumes after a first part of the calls.
pub record AnswersFromPoint (span : Span)
    (p : Point) (lines : List (List ℕ)) (front reply : List ℕ) (halt : Option Halt) : Type 0 where
  pub events : Answers
  pub answers : AnswersLines (block_count span.setup) p.history lines front reply events halt
  pub asked : List Event
  pub all : Stretch span p asked
  pub answered : answers_in all.turns ≡ events
  pub kinds : AreBlockEvents events
  pub halted : all.end.halt ≡ halt
  pub written : all.end.history ≡ p.history ++ entries_in events
  pub stops : halt ≡ None → LeavesHeld (block_count span.setup)
      (life_start answers.first p.history) all.end.low all.end.history answers.last answers.log

-- The last event of a session is a flush, which was answered so.
pub record FlushesLast (span : Span) (p : Point) (answer : Answer) : Type 0 where
  pub asked : List Event
  pub all : Stretch span p asked
  pub answered : answers_in all.turns ≡ (Flush, answer) ∷ []

-- The whole text of `vol` for these bytes, by its status, as that of `run`: what stands before the
-- last line, and the last line. After a halt in the lines the last flush gives it again.
pub data VolumesText (span : Span) (p : Point) (bytes : List ℕ) : ℕ → List ℕ → List ℕ → Type 0 where
  done : (mid : Option Trail) (front reply : List ℕ)
      (a : AnswersFromPoint (record span { now = mid }) p (lines_of bytes) front reply None)
      → FlushesLast (record span { start = mid }) a.all.end (Flushed (length a.all.end.history))
      → VolumesText span p bytes status_done
      (begins_with p ++ (front ++ reply)) (end_line (length a.all.end.history))
  halted : (mid : Option Trail) (halt : Halt) (met : Option Halt) (front reply : List ℕ)
      (a : AnswersFromPoint (record span { now = mid }) p (lines_of bytes) front reply met)
      → (met ≡ None) ⊎ (met ≡ Some halt)
      → FlushesLast (record span { start = mid }) a.all.end (Halted halt) → VolumesText span p bytes
      (status_of_halt halt) (begins_with p ++ (front ++ reply)) (halt_line halt)
  source : (met : Option Halt) (front reply : List ℕ)
      → AnswersFromPoint span p (whole_lines bytes) front reply met
      → VolumesText span p bytes status_source
      (begins_with p ++ (front ++ reply)) (codes "source\n")
  too_long : length bytes ≡ stream_most → (met : Option Halt) (front reply : List ℕ)
      → AnswersFromPoint span p (whole_lines bytes) front reply met
      → VolumesText span p bytes status_too_long
      (begins_with p ++ (front ++ reply)) (codes "toolong\n")

-- What was written: the whole text of the status; or at `status_sink` one whose last line is cut,
-- or a first part of the first line, and then nothing was asked of the array; or the answers up to
-- one that is cut, and then no line behind it was served. Of what is cut a first part stands that
-- is not the whole.
pub data WritesVolumes
    (span : Span) (p : Point) (bytes : List ℕ) (status : ℕ) (text : List ℕ) : Type 0 where
  whole : (said last : List ℕ) → VolumesText span p bytes status said last
      → text ≡ said ++ last → WritesVolumes span p bytes status text
  last_line : status ≡ status_sink → (code : ℕ) (said last : List ℕ) (count : ℕ)
      → VolumesText span p bytes code said last → count < length last
      → text ≡ said ++ take count last → WritesVolumes span p bytes status text
  answers : status ≡ status_sink
      → (before more : List (List ℕ)) (line front reply : List ℕ) (count : ℕ) (met : Option Halt)
      → lines_of bytes ≡ (before ++ line ∷ []) ++ more
      → AnswersFromPoint span p (before ++ line ∷ []) front reply met → count < length reply
      → text ≡ begins_with p ++ (front ++ take count reply) → WritesVolumes span p bytes status text
  first_line : status ≡ status_sink
      → (count : ℕ) → bytes ≡ [] → Stretch span p [] → count < length (begins_with p)
      → text ≡ take count (begins_with p) → WritesVolumes span p bytes status text

-- A session took these bytes and wrote this text, by these events of the array. What it is is known
-- where all is told, from each point at which the array stood.
pub record VolumesRun (seen seen_now : Shown)
    (span : Span) (stood : Point → Type 0) (streams : Streams) (status : ℕ) : Type 0 where
  pub bytes : List ℕ
  pub text : List ℕ
  pub given : Gives streams.source.left_before streams.source.left bytes
  pub grows : GrowsByBytes streams.sink.written_before streams.sink.written text
  pub full : status ≡ status_too_long → length bytes ≡ stream_most
  pub all : IsWholeStatus status → (length bytes < stream_most) × AtEnd streams.source.left
  pub events : Answers
  pub form : HasVolumesForm seen seen_now bytes events status text
  pub wrote : IsSome span.now → (p : Point) → stood p → WritesVolumes span p bytes status text

-- What follows from the first point of a session: the text; what each stretch leaves, up to any
-- mark; and after one that ends well no block of a disk that is there is loose, so no stop changes
-- one.
pub record FollowsForVolumes
    (span : Span) (bytes : List ℕ) (status : ℕ) (text : List ℕ) (p : Point) : Type 0 where
  pub wrote : WritesVolumes span p bytes status text
  pub left : (mid : Option Trail)
      (asked : List Event) (c : Stretch (record span { now = mid }) p asked) → IsLeftByStretch c
  pub synced : status ≡ status_done → (t : Trail) → span.now ≡ Some t → AreSynced (now t)

-- The headline of `vol`. The session took these bytes and wrote this text; over every rack the
-- array answered these reads, writes and flushes, each with its cause, and the text has the form of
-- their answers; where all is told, on a rack that held a history, the text is what the lines are
-- answered, the array kept the events of these answers, and each stop leaves what a session
-- promises.
pub record VolumesHeadline (seen seen_now : Shown)
    (span : Span) (began : ℕ) (streams : Streams) (status : ℕ) : Type 0 where
  pub bytes : List ℕ
  pub text : List ℕ
  pub given : Gives streams.source.left_before streams.source.left bytes
  pub grows : GrowsByBytes streams.sink.written_before streams.sink.written text
  pub full : status ≡ status_too_long → length bytes ≡ stream_most
  pub all : IsWholeStatus status → (length bytes < stream_most) × AtEnd streams.source.left
  pub events : Answers
  pub causes : HaveAnswerCauses seen events seen_now
  pub kinds : AreBlockEvents events
  pub form : HasVolumesForm seen seen_now bytes events status text
  pub said : IsSome span.now → IsMountedFromEach span.slots span.setup began span.start
      (FollowsForVolumes span bytes status text)
