-- The state of an array as its events see it: no blocks, batches or places.
use Rattle.std.specs.Prelude.{ℕ, ◌==◌, ◌||◌, nat_lt, Bool, List, [], Option, Some, None, if◌then◌else◌}
use Rattle.paraid_base.specs.declared.state.Out.{Out}
use Rattle.paraid_base.specs.declared.state.Out.TheVariants.{No, Gone, Fresh}
use Rattle.paraid_base.specs.declared.state.Phase.{Phase}
pub use Rattle.paraid_base.specs.States.{phase_beside}
use Rattle.paraid_rack.specs.declared.call.Power.{Power}
use Rattle.paraid_rack.specs.declared.call.Power.TheVariants.{Spinning, Parked}
use Rattle.paraid_rack.specs.Disks.{Disks, is_present}
use Rattle.paraid_record.specs.declared.meta.Meta.{Meta}
use Rattle.paraid_record.specs.Range.{has_out}
use Rattle.paraid_image.specs.Content.{view_of}
use Rattle.paraid_image.specs.Out.{first_absent}
use Rattle.paraid_image.specs.Sides.{LogState}
use Rattle.paraid_image.specs.Spot.{rising_to}

-- the state of the power machine: gear, phase, fill mark, dirty cells, out disk, spins, ticks,
-- samples, and the reads and writes since the last tick
pub record PowerState : Type 0 where
  pub gear : ℕ
  pub phase : Phase
  -- by row and disk
  pub dirty : ℕ → ℕ → Bool
  -- how many stripes of the new gear's region are filled
  pub fill : ℕ
  pub out : Out
  pub spins : List ℕ
  pub ticks : ℕ
  -- of this mount, the oldest first
  pub samples : List ℕ
  -- reads and writes that succeeded since the last tick
  pub served : ℕ

-- a disk that is out, as one that is gone
abbrev pub gone_of : Option ℕ → Out
gone_of None = No
gone_of (Some d) = Gone d

-- what is out, where a meta says this and `lost` is the least absent slot; a disk that was being
-- rebuilt and is absent is gone again
abbrev pub out_after : Out → (ℕ → Power) → Option ℕ → Out
out_after No power lost = gone_of lost
out_after (Gone d) power lost = Gone d
out_after (Fresh d rebuilt) power lost = if is_present (power d) then Fresh d rebuilt else Gone d

-- the out disk of the state, by powers and a meta
abbrev pub out_state : (ℕ → Power) → Meta → Out
out_state power m = out_after m.out power (first_absent power m.setup.geometry.disks)

-- the state with which events begin, on disks with these powers under this meta
unfoldable pub state_by : (ℕ → Power) → Meta → (ℕ → ℕ → Bool) → PowerState
state_by power m dirty = record {
  gear = m.gear;
  phase = phase_beside (has_out (out_state power m)) m.phase;
  dirty = dirty;
  fill = if has_out (out_state power m) then 0 else m.fill;
  out = out_state power m;
  spins = m.spins;
  ticks = m.ticks;
  samples = [];
  served = 0;
}

-- the state of an image whose standing log disk says this
abbrev pub initial_state : Disks → LogState → PowerState
initial_state i said = state_by i.power said.meta (view_of i said).dirty

-- whether a disk that is not out is to spin: it is below the gear, or a shift up brings it up
abbrev pub spins_by_gear : ℕ → Phase → ℕ → Bool
spins_by_gear gear phase d = nat_lt d gear || nat_lt d (rising_to phase)

-- how the gear powers a disk that is not out: it spins if it is to, and else is parked
abbrev pub power_by_gear : ℕ → Phase → ℕ → Power
power_by_gear gear phase d = if spins_by_gear gear phase d then Spinning else Parked

-- how a disk is powered, unless it is the one that is gone
abbrev pub power_beside : Out → ℕ → Power → Option Power
power_beside No d power = Some power
power_beside (Gone out) d power = if d == out then None else Some power
power_beside (Fresh out rebuilt) d power = if d == out then Some Spinning else Some power

-- how disk `d` is powered in a state between two events; of a disk that is gone nothing is said
abbrev pub power_of : PowerState → ℕ → Option Power
power_of state d = power_beside state.out d (power_by_gear state.gear state.phase d)
