-- One call that takes the next line of a demand.
use Rattle.std.specs.Prelude.{◌≡◌, ℕ, ◌+◌, ◌≤◌, ◌^◌, false, List, [], ◌++◌, length, decimal, IsTrue, Option, Result, Ok, Err}
use Rattle.paraid_base.specs.Told.{AtEnd, Gives, stream_most}
use Rattle.paraid_io.specs.declared.line.LineFault.{LineFault}
use Rattle.paraid_io.specs.Lines.{whole_lines}
use Rattle.paraid_io.specs.Reading.{IsNextLine, Reading}
use Rattle.paraid_planning.specs.Demand.{IsNoNumber}
use Rattle.paraid_planning.specs.declared.hear.Spoken.{Spoken}
use Rattle.paraid_planning.specs.declared.hear.Spoken.TheVariants.{Number, Other, End}
use Rattle.paraid_schedule.specs.Schedule.{demand_most}

-- what an answer says of the bytes that were held before and taken in the call
abbrev pub IsSpoken : Result Spoken LineFault → List ℕ → Reading → Type 0
IsSpoken (Ok (Number number)) bytes new =
    (number ≤ demand_most) × IsNextLine bytes (decimal number) new
IsSpoken (Ok Other) bytes new = (line : List ℕ) × IsNoNumber line × IsNextLine bytes line new
IsSpoken (Ok End) bytes new = (bytes ≡ []) × (new.rest ≡ []) × IsTrue new.ended
IsSpoken (Err fault) bytes new = (whole_lines bytes ≡ []) × (new.ended ≡ false)

-- One call took these bytes.
pub record HearsNumber (before left : Option (List ℕ))
    (old new : Reading) (result : Result Spoken LineFault) : Type 0 where
  pub got : List ℕ
  pub given : Gives before left got
  pub taken : new.taken ≡ old.taken + length got
  pub says : IsSpoken result (old.rest ++ got) new
  pub ended_before : IsTrue old.ended → got ≡ []
  pub stays_ended : IsTrue old.ended → IsTrue new.ended
  pub ended_now : IsTrue new.ended → old.ended ≡ false → AtEnd left
  pub limit : new.taken ≤ stream_most
