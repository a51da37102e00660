-- How the edge ends: with the status of a command, or with one of its own.
use Rattle.std.specs.Prelude.{◌≡◌, ℕ, ◌⊎◌, List, [], ◌∷◌, Option, Some, None}
use Rattle.paraid_imgrack.specs.declared.image.Image.{Image}
use Rattle.paraid_imgrack.specs.declared.rack.ImageRack.{ImageRack}
use Rattle.paraid_serve.specs.Statuses.{IsOneOf, status_busy, status_no_memory, status_not_an_array, status_sink, status_source}
use Rattle.paraid_words.specs.declared.command.Command.{Command}
use Rattle.paraid_words.specs.Reads.{ReadsSource}
use Rattle.paraid_words.specs.Words.{AskFor}
use Rattle.paraid_edge.specs.Ready.{IsReady}

-- A status of the edge's own: a closed or failed stream, an image that is refused, no memory, or
-- another command here. A closed source refuses only a command that reads it.
pub record IsOwnStatus (c : Command) (status : ℕ) : Type 0 where
  pub among : IsOneOf
      (status_source ∷ status_sink ∷ status_not_an_array ∷ status_no_memory ∷ status_busy ∷ [])
      status
  pub source : status ≡ status_source → ReadsSource c

-- There was no memory, and the program is left as it was; or it was used up, and this holds.
abbrev pub UsesProgram : {P : Type 0} → P → Option P → ℕ → Type 0 → Type 0
UsesProgram program left status Q =
    ((left ≡ Some program) × (status ≡ status_no_memory)) ⊎ ((left ≡ None) × Q)

-- The command was served with a rack that was ready for it, and ended with this status.
pub record ServesReady {F : Type 0} (free : List Image → Type 0)
    (ended : ImageRack F → Command → ℕ → Type 0) (c : Command) (status : ℕ) : Type 0 where
  pub rack : ImageRack F
  pub ready : IsReady free c rack
  pub ends : ended rack c status

-- The status is the edge's own, and the program is left as it was; or it was used up by the command
-- that the words ask for, which it served with a rack that was ready and which ended with this
-- status.
abbrev pub EndsAsked : {P F : Type 0} → P → Option P
    → (List Image → Type 0) → (ImageRack F → Command → ℕ → Type 0) → List (List ℕ) → ℕ → Type 0
EndsAsked program left free ended words status = (c : Command)
    → AskFor c words → ((left ≡ Some program) × IsOwnStatus c status)
    ⊎ ((left ≡ None) × ServesReady free ended c status)

-- The program has told which words there are, with this status; or there was no memory, and it is
-- left as it was.
abbrev pub EndsUnasked : {P : Type 0} → P → Option P → (ℕ → Type 0) → List (List ℕ) → ℕ → Type 0
EndsUnasked program left told words status = ((c : Command) → AskFor c words → ⊥)
    → UsesProgram program left status (told status)
