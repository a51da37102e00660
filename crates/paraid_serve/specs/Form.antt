-- The form of what a run writes, whatever the rack holds: to each line an answer with its cause.
use Rattle.std.specs.Prelude.{◌≡◌, ℕ, ◌<◌, List, [], ◌∷◌, ◌++◌, length, take}
use Rattle.paraid_base.specs.declared.event.Answer.{Answer}
use Rattle.paraid_io.specs.Lines.{lines_of}
use Rattle.paraid_trace.specs.LineEvents.{event_of}
use Rattle.paraid_trace.specs.Replies.{reply_of}
use Rattle.paraid_serve.specs.Causes.{HasCause, HaveCauses, Shown}
use Rattle.paraid_serve.specs.Stretch.{events_in}

-- the lines that tell some answers
abbrev pub texts : List Answer → List ℕ
texts [] = []
texts (answer ∷ answers) = reply_of answer ++ texts answers

-- A text that tells an answer to each of these lines, with its cause: as an array showing `old`
-- answers them, which then shows `new`.
pub record HasAnswers
    (old : Shown) (lines : List (List ℕ)) (text : List ℕ) (new : Shown) : Type 0 where
  pub answers : List Answer
  pub causes : HaveCauses old (events_in lines) answers new
  pub is : text ≡ texts answers

-- A text that tells an answer to each of some lines, and a first part of the answer to the next
-- one, which is not the whole, with the cause of each. After that answer no line was served: the
-- array showed `old` before the first line, and shows `new` after that answer.
pub record BeginsAnswers (old : Shown) (bytes text : List ℕ) (new : Shown) : Type 0 where
  pub before : List (List ℕ)
  pub line : List ℕ
  pub more : List (List ℕ)
  pub split : lines_of bytes ≡ (before ++ line ∷ []) ++ more
  pub front : List ℕ
  pub mid : Shown
  pub told : HasAnswers old before front mid
  pub answer : Answer
  pub cause : HasCause mid (event_of line) answer new
  pub count : ℕ
  pub short : count < length (reply_of answer)
  pub cut : text ≡ front ++ take count (reply_of answer)
