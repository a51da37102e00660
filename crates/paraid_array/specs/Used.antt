-- What the disks of an array use between two ticks, and in a shift.
use Rattle.std.specs.Prelude.{ℕ, ◌-◌, Option, Some}
use Rattle.paraid_base.specs.declared.state.TickEvent.{TickEvent}
use Rattle.paraid_base.specs.declared.state.TickEvent.TheVariants.{Begun as TickBegun}
use Rattle.paraid_base.specs.Sums.{sum_before}
use Rattle.paraid_rack.specs.declared.call.Power.{Power}
use Rattle.paraid_rack.specs.declared.call.Power.TheVariants.{Spinning, Parked, Absent}
use Rattle.paraid_record.specs.declared.meta.Meta.{Meta}
use Rattle.paraid_record.specs.declared.meta.Setup.{Setup}
use Rattle.paraid_image.specs.Power.{power_beside, power_by_gear}
use Rattle.paraid_machine.specs.Energy.{spin_up_energy}
use Rattle.paraid_upkeep.specs.declared.asked.ShiftOutcome.{ShiftOutcome}
use Rattle.paraid_upkeep.specs.declared.asked.ShiftOutcome.TheVariants.{Begun, Refused}

-- how disk `d` is powered by this meta, unless it is gone
abbrev pub power_by : Meta → ℕ → Option Power
power_by m d = power_beside m.out d (power_by_gear m.gear m.phase d)

-- 1 for a disk that is powered so, and 0 for another
abbrev pub one_with : Power → Option Power → ℕ
one_with Spinning (Some Spinning) = 1
one_with Parked (Some Parked) = 1
one_with Absent (Some Absent) = 1
one_with power other = 0

-- how many disks are powered so by this meta
abbrev pub disks_with : Meta → Power → ℕ
disks_with m power = sum_before (λ d. one_with power (power_by m d)) m.setup.geometry.disks

-- how many disks a tick spins up that did this in this gear
abbrev pub begun_spin_ups : ℕ → TickEvent → ℕ
begun_spin_ups gear (TickBegun to) = to - gear
begun_spin_ups gear event = 0

-- how many disks a shift spins up that was asked for in this gear
abbrev pub asked_spin_ups : ℕ → ShiftOutcome → ℕ
asked_spin_ups gear (Begun to) = to - gear
asked_spin_ups gear (Refused fault) = 0

-- what they use
abbrev pub asked_energy : Setup → ℕ → ShiftOutcome → ℕ
asked_energy setup gear (Begun to) = spin_up_energy setup gear to
asked_energy setup gear (Refused fault) = 0
