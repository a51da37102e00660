-- A life of an array: a session on disks that held no write, line by line.
use Rattle.std.specs.Prelude.{◌≡◌, ℕ, ◌||◌, ◌==◌, Bool, List, [], ◌∷◌, ◌++◌, Option, None, IsSome}
use Rattle.paraid_base.specs.declared.event.Answer.TheVariants.{Flushed}
use Rattle.paraid_base.specs.declared.event.Event.TheVariants.{Flush}
use Rattle.paraid_io.specs.Lines.{lines_of}
use Rattle.paraid_rack.specs.declared.call.Call.{Call}
use Rattle.paraid_rack.specs.Calls.{disk_of, is_done}
use Rattle.paraid_rack.specs.Disks.{Disks}
use Rattle.paraid_rack.specs.Trail.{Trail}
use Rattle.paraid_record.specs.declared.meta.Setup.{Setup}
use Rattle.paraid_image.specs.Sides.{LogState, closed_over}
use Rattle.paraid_recover.specs.First.{first_meta}
use Rattle.paraid_session.specs.Mount.{IsBegun, IsMountedFromEach, IsMounting}
use Rattle.paraid_session.specs.Turn.{Point}
use Rattle.paraid_serve.specs.Ending.{end_line}
use Rattle.paraid_serve.specs.Output.{FollowsFromPoint, begins_with}
use Rattle.paraid_serve.specs.Stretch.{EndsStretch, span_of, events_in, replies}
use Rattle.paraid_commands.specs.Ends.{BeginsAt}
use Rattle.paraid_commands.specs.Outcome.{IsEmptyArray}

-- a call was done, or is on this disk
abbrev pub is_done_or_on : ℕ → Call → Bool
is_done_or_on d call = is_done call || disk_of call == d

-- A run from one record to another answered these lines by this text, as a session does from each
-- history that the rack held.
pub record RunAnswers (slots : ℕ) (before after : Option Trail) (lines text : List ℕ) : Type 0 where
  pub setup : Setup
  pub began : ℕ
  pub middle : Option Trail
  pub begins : BeginsAt before middle after began
  pub said : IsSome after → IsMountedFromEach slots setup began middle
      (FollowsFromPoint (span_of slots setup middle after) lines 0 text)

-- what the log disks of a new array say
abbrev pub said_first : Setup → LogState
said_first setup = closed_over (first_meta setup)

-- There are disks that held no write, calls that mount them, and a session from the first point on:
-- each line is a turn from one point to the next, and so is the flush at the end. The text is what
-- they answer.
pub record IsLife (slots : ℕ) (lines text : List ℕ) : Type 0 where
  pub setup : Setup
  pub array : Disks
  pub empty : IsEmptyArray slots setup array
  pub disk : ℕ
  pub mount : List Call
  pub mounting : IsMounting slots array disk (said_first setup) [] 0 None mount
  pub first : Point
  pub begun : IsBegun slots array (said_first setup) [] 0 None mounting.base mount first
  pub start : Option Trail
  pub final : Option Trail
  pub writes : ℕ
  pub answered : EndsStretch (span_of slots setup start final) first
      (events_in (lines_of lines) ++ Flush ∷ []) (Flushed writes)
  pub told : text ≡ begins_with first ++ replies answered.before ++ end_line writes
