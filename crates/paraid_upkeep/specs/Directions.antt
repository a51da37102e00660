-- What is said of a shift that is asked for, by its direction.
use Rattle.std.specs.Prelude.{ℕ, ◌+◌, ◌<◌, ◌≤◌, slice_index}
use Rattle.paraid_base.specs.declared.event.Event.{Event}
use Rattle.paraid_base.specs.declared.event.Event.TheVariants.{Down as AskDown, Up as AskUp}
use Rattle.paraid_base.specs.declared.state.Phase.TheVariants.{Down as PhaseDown}
use Rattle.paraid_record.specs.declared.meta.Meta.{Meta}
use Rattle.paraid_record.specs.declared.meta.Setup.{Setup}
use Rattle.paraid_record.specs.Range.{AreNextGears, allowed_spins}
use Rattle.paraid_image.specs.Power.{PowerState}
use Rattle.paraid_moves.specs.MoveMetas.{meta_after_begin}
use Rattle.paraid_core.specs.Steps.{IsMarkedFrom}
use Rattle.paraid_shift.specs.Rising.{HasBegunUp}
use Rattle.paraid_upkeep.specs.declared.asked.ShiftOutcome.{ShiftOutcome}
use Rattle.paraid_upkeep.specs.declared.asked.Direction.{Direction}
use Rattle.paraid_upkeep.specs.declared.asked.Direction.TheVariants.{Down, Up}
use Rattle.paraid_upkeep.specs.declared.fault.ShiftFault.{ShiftFault}
use Rattle.paraid_upkeep.specs.Refusals.{HasMarkedDown, HasMarkedUp, IsDownRefused, IsUpRefused, MayGoDown, MayGoUp}

-- the event that asks for a shift in this direction
abbrev pub asked_event : Direction → Event
asked_event Up = AskUp
asked_event Down = AskDown

-- a shift in this direction may begin, to this gear
abbrev pub MayGo : Direction → Setup → PowerState → ℕ → Type 0
MayGo Up setup s to = MayGoUp setup s to
MayGo Down setup s to = MayGoDown setup s to

-- a shift in this direction is refused so
abbrev pub IsRefusedTo : Direction → Setup → PowerState → ShiftFault → Type 0
IsRefusedTo Up setup s fault = IsUpRefused setup s fault
IsRefusedTo Down setup s fault = IsDownRefused setup s fault

-- this is the next gear in this direction, and no disk that a shift to it parks has used up its
-- allowance
abbrev pub IsNextTo : Direction → Meta → ℕ → Type 0
IsNextTo Up m to = AreNextGears m.setup.geometry m.gear to
IsNextTo Down m to = AreNextGears m.setup.geometry to m.gear
    × ((d : ℕ) → to ≤ d → d < m.gear → slice_index m.spins d < allowed_spins m)

-- a shift in this direction has begun, to this gear, by a commit
abbrev pub HasBegun : Direction → Meta → Meta → ℕ → Type 0
HasBegun Up m m_then to = HasBegunUp m m_then to
HasBegun Down m m_then to =
    IsMarkedFrom (record (meta_after_begin m (PhaseDown to) m.spins) { epoch = m.epoch + 1 }) m_then

-- what a shift in this direction that was asked for has left of the meta, so many commits later
abbrev pub HasMarkedShift : Direction → Meta → Meta → ShiftOutcome → Type 0
HasMarkedShift Up m m_then asked = HasMarkedUp m m_then asked
HasMarkedShift Down m m_then asked = HasMarkedDown m m_then asked
