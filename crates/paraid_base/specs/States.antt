-- What a phase and an out disk say.
use Rattle.std.specs.Prelude.{ℕ, ◌==◌, Bool, true, false, Option, Some, None, if◌then◌else◌}
use Rattle.paraid_base.specs.declared.state.Phase.{Phase}
use Rattle.paraid_base.specs.declared.state.Phase.TheVariants.{Steady, Down, Up}
use Rattle.paraid_base.specs.declared.state.Out.{Out}
use Rattle.paraid_base.specs.declared.state.Out.TheVariants.{No, Gone, Fresh}

-- whether a shift down is under way
abbrev pub is_down : Phase → Bool
is_down Steady = false
is_down (Down to) = true
is_down (Up to) = false

-- the gear that a shift goes to, or 0
abbrev pub phase_to : Phase → ℕ
phase_to Steady = 0
phase_to (Down to) = to
phase_to (Up to) = to

-- the gear that a shift up goes to, or 0; the disks below it hold their clean cells in place
abbrev pub rising_to : Phase → ℕ
rising_to Steady = 0
rising_to (Down to) = 0
rising_to (Up to) = to

-- the phase where a disk is out, or none is: a disk that is out ends a shift down
abbrev pub phase_beside : Bool → Phase → Phase
phase_beside has_out Steady = Steady
phase_beside has_out (Down to) = if has_out then Steady else Down to
phase_beside has_out (Up to) = Up to

-- whether a disk is out
abbrev pub has_out : Out → Bool
has_out No = false
has_out (Gone disk) = true
has_out (Fresh disk rebuilt) = true

-- the disk that a meta names out
abbrev pub named_out : Out → Option ℕ
named_out No = None
named_out (Gone disk) = Some disk
named_out (Fresh disk rebuilt) = Some disk

-- the disk that a meta names out and gone; a disk that is being rebuilt is written like the others
abbrev pub gone_out : Out → Option ℕ
gone_out No = None
gone_out (Gone disk) = Some disk
gone_out (Fresh disk rebuilt) = None

-- how many units of the out disk are rebuilt, none where it is gone
abbrev pub rebuilt_count : Out → ℕ
rebuilt_count No = 0
rebuilt_count (Gone disk) = 0
rebuilt_count (Fresh disk rebuilt) = rebuilt

-- disk `d` is the one that is out
abbrev pub is_out : Option ℕ → ℕ → Bool
is_out None d = false
is_out (Some out) d = d == out

-- whether a disk is gone by the meta
abbrev pub is_gone : Out → ℕ → Bool
is_gone No d = false
is_gone (Gone out) d = d == out
is_gone (Fresh out rebuilt) d = false

-- whether a disk is being rebuilt by the meta
abbrev pub is_fresh : Out → ℕ → Bool
is_fresh No d = false
is_fresh (Gone out) d = false
is_fresh (Fresh out rebuilt) d = d == out
