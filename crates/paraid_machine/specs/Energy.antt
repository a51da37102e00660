-- The energy that an event uses.
use Rattle.std.specs.Prelude.{ℕ, ◌+◌, ◌-◌, ◌*◌, min, Option, Some, None}
use Rattle.paraid_base.specs.declared.event.Answer.{Answer}
use Rattle.paraid_base.specs.declared.event.Answer.TheVariants.{Ticked, Shift}
use Rattle.paraid_base.specs.declared.state.TickEvent.{TickEvent}
use Rattle.paraid_base.specs.declared.state.TickEvent.TheVariants.{Begun}
use Rattle.paraid_base.specs.Sums.{sum_before}
use Rattle.paraid_rack.specs.declared.call.Power.{Power}
use Rattle.paraid_rack.specs.declared.call.Power.TheVariants.{Spinning, Parked, Absent}
use Rattle.paraid_record.specs.declared.meta.Setup.{Setup}
use Rattle.paraid_image.specs.Power.{PowerState, power_of}
use Rattle.paraid_base.specs.Told.{counter_most}

-- what a disk uses between two ticks
abbrev pub energy_at : Setup → Option Power → ℕ
energy_at setup (Some Spinning) = setup.spinning_mj
energy_at setup (Some Parked) = setup.parked_mj
energy_at setup (Some Absent) = 0
energy_at setup None = 0

-- the energy that a tick adds
abbrev pub tick_energy : Setup → PowerState → ℕ
tick_energy setup s = sum_before (λ d. energy_at setup (power_of s d)) setup.geometry.disks

-- the energy of the spin-ups of a shift from one gear to another, 0 where it goes down
abbrev pub spin_up_energy : Setup → ℕ → ℕ → ℕ
spin_up_energy setup gear to = setup.spinup_mj * (to - gear)

-- the energy that the beginning of a shift adds
abbrev pub begun_energy : Setup → ℕ → TickEvent → ℕ
begun_energy setup gear (Begun to) = spin_up_energy setup gear to
begun_energy setup gear event = 0

-- what an event uses that is answered so in this state
abbrev pub energy_of : Setup → PowerState → Answer → ℕ
energy_of setup s (Ticked report) = tick_energy setup s + begun_energy setup s.gear report.event
energy_of setup s (Shift gear to) = spin_up_energy setup gear to
energy_of setup s answer = 0

-- the sum after it, which stays at the greatest number of 64 bits
abbrev pub energy_after : Setup → ℕ → PowerState → Answer → ℕ
energy_after setup used s answer = min (used + energy_of setup s answer) counter_most
