-- What contracts see of a reader of lines, and what one call of it does.
use Rattle.std.specs.Prelude.{◌≡◌, ◌≢◌, ℕ, ◌+◌, ◌^◌, ◌<◌, ◌≤◌, ◌⊎◌, Bool, false, List, [], ◌∷◌, ◌++◌, length, IsTrue, Option, Some, None, Result, Ok, Err}
use Rattle.paraid_io.specs.declared.line.Line.{Line}
use Rattle.paraid_io.specs.declared.line.Line.TheVariants.{Whole, Long, End}
use Rattle.paraid_io.specs.declared.line.LineFault.{LineFault}
use Rattle.paraid_io.specs.declared.line.LineFault.TheVariants.{Source, TooLong}
use Rattle.paraid_base.specs.Told.{Gives, AtEnd, HasRisen, stream_most}
use Rattle.paraid_io.specs.Lines.{NoNewline, lines_of, whole_lines}

-- what is seen of a reader: the bytes in no line yet, the last line, the bytes taken, whether the
-- end was given, and the fault that is kept
pub record Reading : Type 0 where
  -- bytes that were taken and are in no line yet
  pub rest : List ℕ
  -- the last whole line
  pub line : List ℕ
  -- how many bytes were taken
  pub taken : ℕ
  -- whether the source gave its end
  pub ended : Bool
  -- the fault that each further call answers
  pub fault : Option LineFault

-- a reader that has taken so many bytes and holds none
abbrev pub fresh_reader : ℕ → Reading
fresh_reader taken = record { rest = []; line = []; taken = taken; ended = false; fault = None }

-- The reader took these many bytes from the source, or none at its end.
pub record ReaderTakes (before after : Option (List ℕ)) (old new : Reading) (n : ℕ) : Type 0 where
  pub got : List ℕ
  pub many : length got ≡ n
  pub given : Gives before after got
  pub held : new.rest ≡ old.rest ++ got
  pub taken : new.taken ≡ old.taken + n
  pub limit : new.taken ≤ stream_most
  pub end : n ≡ 0 → AtEnd after

-- The bytes that are in no line yet begin with this line, whatever follows them, and what the
-- reader holds now is left of them.
pub record IsNextLine (bytes line : List ℕ) (new : Reading) : Type 0 where
  pub lines : (more : List ℕ) → (IsTrue new.ended → more ≡ [])
      → lines_of (bytes ++ more) ≡ line ∷ lines_of (new.rest ++ more)
  pub whole : new.ended ≡ false
      → (more : List ℕ) → whole_lines (bytes ++ more) ≡ line ∷ whole_lines (new.rest ++ more)
  pub shorter : length new.rest < length bytes

-- The first line of the input is this one, and this is the rest. The last line may lack its
-- newline, at the end.
pub record CutsOff (input line rest : List ℕ) (ended : Bool) : Type 0 where
  pub plain : NoNewline line
  pub cut : (input ≡ line ++ 10 ∷ rest)
      ⊎ ((input ≡ line) × (line ≢ []) × (rest ≡ []) × IsTrue ended)

-- what an answer says of the bytes that were held before and taken in the call
abbrev pub IsAnswer : Result Line LineFault → List ℕ → Reading → Type 0
IsAnswer (Ok (Whole n)) input new =
    CutsOff input new.line new.rest new.ended × (length new.line ≡ n) × (n ≤ 1100)
IsAnswer (Ok (Long n)) input new =
    (line : List ℕ) × CutsOff input line new.rest new.ended × (length line ≡ n) × (1100 < n)
IsAnswer (Ok End) input new = (input ≡ []) × (new.rest ≡ []) × IsTrue new.ended
IsAnswer (Err fault) input new = NoNewline input × (new.fault ≡ Some fault) × (new.ended ≡ false)

-- a fault comes only here: a count has risen, or all that may be taken was taken
abbrev pub HasCause : Result Line LineFault → Reading → ℕ → ℕ → Type 0
HasCause (Ok line) new before now = new.fault ≡ None
HasCause (Err Source) new before now = HasRisen before now × (new.taken < stream_most)
HasCause (Err (TooLong bytes)) new before now = (bytes ≡ stream_most) × (new.taken ≡ stream_most)

-- The next line or fault is known with no call of the source: its end was given, a whole line is
-- held, or all that may be taken was taken.
abbrev pub NeedsNoCall : Reading → Type 0
NeedsNoCall r = IsTrue r.ended ⊎ (whole_lines r.rest ≢ []) ⊎ (r.taken ≡ stream_most)

-- One call of a reader that has met no fault: these bytes were taken.
pub record ReaderStep (before after : Option (List ℕ)) (old new : Reading)
    (result : Result Line LineFault) : Type 0 where
  pub got : List ℕ
  pub given : Gives before after got
  pub taken : new.taken ≡ old.taken + length got
  pub limit : new.taken ≤ stream_most
  pub held : length new.rest ≤ new.taken
  pub answer : IsAnswer result (old.rest ++ got) new
  -- after the end nothing more is taken, and the end comes only where nothing is left
  pub ended_before : IsTrue old.ended → got ≡ []
  pub stays_ended : IsTrue old.ended → IsTrue new.ended
  pub ended_now : IsTrue new.ended → old.ended ≡ false → AtEnd after × (new.taken < stream_most)
