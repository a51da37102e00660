-- The text of an array's state
use Rattle.std.specs.Prelude.{ℕ, List, ◌++◌, take, codes, decimal}
use Rattle.std.specs.List.{flat_map}
use Rattle.paraid_base.specs.declared.state.Phase.{Phase}
use Rattle.paraid_base.specs.declared.state.Phase.TheVariants.{Steady, Down, Up}
use Rattle.paraid_base.specs.declared.state.Out.{Out}
use Rattle.paraid_base.specs.declared.state.Out.TheVariants.{No, Gone, Fresh}
use Rattle.paraid_base.specs.declared.state.Status.{Status}

-- the text of a phase
abbrev pub phase_text : Phase → List ℕ
phase_text Steady = codes "steady"
phase_text (Down to) = codes "down " ++ decimal to
phase_text (Up to) = codes "up " ++ decimal to

-- the text of the out disk
abbrev pub out_text : Out → List ℕ
out_text No = codes "none"
out_text (Gone disk) = decimal disk ++ codes " gone"
out_text (Fresh disk rebuilt) = decimal disk ++ codes " rebuilt " ++ decimal rebuilt

-- one space and a number, for each of these
abbrev pub numbers_text : List ℕ → List ℕ
numbers_text numbers = flat_map (λ number. codes " " ++ decimal number) numbers

-- the state of an array of so many disks
abbrev pub state_text : Status → ℕ → List ℕ
state_text status disks =
    codes "state " ++ decimal status.gear ++ codes " " ++ phase_text status.phase
    ++ codes " dirty " ++ decimal status.dirty ++ codes " fill " ++ decimal status.fill
    ++ codes " out "
    ++ out_text status.out ++ codes " spins" ++ numbers_text (take disks status.spins)
