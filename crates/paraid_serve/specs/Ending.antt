-- How a command begins and ends: its lines, and the status.
use Rattle.std.specs.Prelude.{◌≡◌, ℕ, ◌<◌, ◌⊎◌, List, ◌++◌, length, take, codes, decimal, Option}
use Rattle.paraid_base.specs.declared.event.Answer.TheVariants.{Halted}
use Rattle.paraid_base.specs.declared.fault.Halt.{Halt}
use Rattle.paraid_base.specs.declared.fault.Halt.TheVariants.{Two, Worn}
use Rattle.paraid_base.specs.Told.{GrowsByBytes}
use Rattle.paraid_trace.specs.Replies.{reply_of}
use Rattle.paraid_serve.specs.Statuses.{status_sink, status_two, status_worn}

-- the line of a mount
abbrev pub mount_line : ℕ → ℕ → List ℕ
mount_line writes gear =
    codes "mounted " ++ decimal writes ++ codes " gear " ++ decimal gear ++ codes "\n"

-- the line of an end at which all was kept
abbrev pub end_line : ℕ → List ℕ
end_line writes = codes "end " ++ decimal writes ++ codes "\n"

-- the line of a halt
abbrev pub halt_line : Halt → List ℕ
halt_line halt = reply_of (Halted halt)

-- the status of a halt
abbrev pub status_of_halt : Halt → ℕ
status_of_halt (Two two) = status_two
status_of_halt (Worn count) = status_worn

-- A last line was written whole, with this status, or a first part of it, which is not the whole,
-- at `status_sink`.
pub record EndsWithLine
    (before after : Option (List ℕ)) (line : List ℕ) (code status : ℕ) : Type 0 where
  pub count : ℕ
  pub within : (count < length line) ⊎ ((count ≡ length line) × (status ≡ code))
  pub grows : GrowsByBytes before after (take count line)
  pub whole : (status ≡ status_sink) ⊎ ((count ≡ length line) × (status ≡ code))
