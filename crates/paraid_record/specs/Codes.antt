-- The numbers that stand for modes, phases and disks that are out, and the lists of gears and
-- windows
use Rattle.std.specs.Prelude.{ℕ, false, List, [], ◌∷◌, ◌++◌, if◌then◌else◌, nat_lt, count_by, slice_index_or}
use Rattle.std.proofs.Common.{zero, suc}
use Rattle.paraid_base.specs.declared.geometry.Geometry.{Geometry}
use Rattle.paraid_base.specs.declared.state.Phase.{Phase}
use Rattle.paraid_base.specs.declared.state.Phase.TheVariants.{Steady, Down, Up}
use Rattle.paraid_base.specs.declared.state.Out.{Out}
use Rattle.paraid_base.specs.declared.state.Out.TheVariants.{No, Gone, Fresh}
pub use Rattle.paraid_base.specs.States.{phase_to, rebuilt_count}
use Rattle.paraid_record.specs.declared.meta.Setup.{Setup}
use Rattle.paraid_record.specs.declared.meta.Mode.{Mode}
use Rattle.paraid_record.specs.declared.meta.Mode.TheVariants.{Whole, Access}

-- the number of a mode
abbrev pub mode_code : Mode → ℕ
mode_code Whole = 0
mode_code Access = 1

-- the number of a phase
abbrev pub phase_code : Phase → ℕ
phase_code Steady = 0
phase_code (Down to) = 1
phase_code (Up to) = 2

-- the disk that is out, 255 where none is
abbrev pub out_code : Out → ℕ
out_code No = 255
out_code (Gone disk) = disk
out_code (Fresh disk rebuilt) = disk

-- 1 where the out disk is being rebuilt
abbrev pub fresh_code : Out → ℕ
fresh_code No = 0
fresh_code (Gone disk) = 0
fresh_code (Fresh disk rebuilt) = 1

-- the burst as a version spells it: version 1 has zeros in its place
abbrev pub burst_code : ℕ → Setup → ℕ
burst_code version s = if nat_lt 1 version then s.burst else 0

-- the period as a version spells it
abbrev pub period_code : ℕ → Setup → ℕ
period_code version s = if nat_lt 1 version then s.period else 0

-- the gears below `a`, in ascending order
unfoldable pub gears_below : Geometry → ℕ → List ℕ
gears_below g zero = []
gears_below g (suc a) =
    if slice_index_or g.gears a false then gears_below g a ++ a ∷ [] else gears_below g a

-- all gears, in ascending order
abbrev pub gear_list : Geometry → List ℕ
gear_list g = gears_below g 9

-- how many windows are used; an unused one has length 0
abbrev pub window_count : List ℕ → ℕ
window_count windows = count_by (nat_lt 0) windows
