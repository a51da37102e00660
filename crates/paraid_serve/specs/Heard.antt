-- One call that takes the next line and says what it asks for.
use Rattle.std.specs.Prelude.{◌≡◌, ℕ, ◌+◌, ◌^◌, ◌<◌, ◌≤◌, false, List, [], ◌++◌, length, IsTrue, Option, Some, None, Result, Ok, Err}
use Rattle.paraid_base.specs.Told.{Gives, AtEnd, stream_most}
use Rattle.paraid_io.specs.declared.line.LineFault.{LineFault}
use Rattle.paraid_io.specs.Lines.{whole_lines}
use Rattle.paraid_io.specs.Reading.{IsNextLine, Reading}
use Rattle.paraid_base.specs.declared.event.Event.{Event}
use Rattle.paraid_base.specs.declared.pairs.Pairs.{Pairs}
use Rattle.paraid_trace.specs.declared.asked.Asked.{Asked}
use Rattle.paraid_trace.specs.Asked.{event_with}
use Rattle.paraid_trace.specs.LineEvents.{event_of}

-- the event that is asked for, where there is a next line
abbrev pub heard_event : Result (Option Asked) LineFault → Pairs → Result (Option Event) LineFault
heard_event (Ok (Some asked)) pairs = Ok (Some (event_with asked pairs))
heard_event (Ok None) pairs = Ok None
heard_event (Err fault) pairs = Err fault

-- what an answer says of the bytes that were held before and taken in the call
abbrev pub IsHeardEvent : Result (Option Event) LineFault → List ℕ → Reading → Type 0
IsHeardEvent (Ok (Some event)) bytes new =
    (line : List ℕ) × (event ≡ event_of line) × IsNextLine bytes line new
IsHeardEvent (Ok None) bytes new = (bytes ≡ []) × (new.rest ≡ []) × IsTrue new.ended
IsHeardEvent (Err fault) bytes new = (whole_lines bytes ≡ []) × (new.ended ≡ false)

-- One call took these bytes.
pub record HearsLine (before after : Option (List ℕ))
    (old new : Reading) (result : Result (Option Event) LineFault) : Type 0 where
  pub got : List ℕ
  pub given : Gives before after got
  pub taken : new.taken ≡ old.taken + length got
  pub limit : new.taken ≤ stream_most
  pub held : length new.rest ≤ new.taken
  pub says : IsHeardEvent result (old.rest ++ got) new
  pub ended_before : IsTrue old.ended → got ≡ []
  pub stays_ended : IsTrue old.ended → IsTrue new.ended
  pub ended_now : IsTrue new.ended → old.ended ≡ false → AtEnd after × (new.taken < stream_most)
