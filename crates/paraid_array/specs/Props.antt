-- What an array carries is a fact with one proof.
use Rattle.std.specs.Prelude.{ℕ, List, Option}
use Rattle.std.proofs.Props.{props}
use Rattle.paraid_base.specs.declared.fault.Halt.{Halt}
use Rattle.paraid_base.specs.declared.geometry.Geometry.{Geometry}
use Rattle.paraid_base.specs.declared.state.Out.{Out}
use Rattle.paraid_base.specs.declared.state.Out.TheVariants.{No, Gone, Fresh}
use Rattle.paraid_base.specs.declared.state.Phase.{Phase}
use Rattle.paraid_base.specs.declared.state.Phase.TheVariants.{Steady, Down, Up}
use Rattle.paraid_energy.specs.Account.{Account, HasFigures}
use Rattle.paraid_gear.specs.ThreeWindows.{HoldLastSamples}
use Rattle.paraid_gear.specs.declared.three_windows.Windows.{Windows}
use Rattle.paraid_rack.specs.Slots.{Slot}
use Rattle.paraid_record.specs.declared.meta.Meta.{Meta}
use Rattle.paraid_record.specs.declared.meta.Setup.{Setup}
use Rattle.paraid_record.specs.Range.{IsOutInRange, IsPhaseInRange}
use Rattle.paraid_core.specs.declared.staged.Core.{Core}
use Rattle.paraid_array.specs.Lasting.{IsArrayServing, TellsItsWear}

phase_once : (g : Geometry) (gear : ℕ) (phase : Phase) → IsProp (IsPhaseInRange g gear phase)
phase_once g gear Steady = hlevel props
phase_once g gear (Down to) = hlevel props
phase_once g gear (Up to) = hlevel props

out_once : (g : Geometry) (gear : ℕ) (out : Out) → IsProp (IsOutInRange g gear out)
out_once g gear No = hlevel props
out_once g gear (Gone disk) = hlevel props
out_once g gear (Fresh disk rebuilt) = hlevel props

-- that an array serves has one proof (a fact)
pub IsArrayServing-prop : {R : Type 0} {g : _}
    (count : R → ℕ) (slot : R → ℕ → Slot) (core : Core R g) (lengths : List ℕ) (setup : Setup)
    (slots : ℕ) → IsProp (IsArrayServing count slot core lengths setup slots)
IsArrayServing-prop count slot core lengths setup slots = hlevel (props, phase_once, out_once)

-- what is asked only under a condition has one proof where it has one
pub while_prop : {A : Type 0} {B : Type 0} → IsProp B → IsProp (A → B)
while_prop once = hlevel once

-- that a halt by wear has its number has one proof (a fact)
pub TellsItsWear-prop : (m : Meta) (halt : Option Halt) → IsProp (TellsItsWear m halt)
TellsItsWear-prop m halt = hlevel props

-- that windows hold the last of some samples has one proof (a fact)
pub HoldLastSamples-prop : (windows : Windows) (samples : List ℕ)
    → IsProp (HoldLastSamples windows samples)
HoldLastSamples-prop windows samples = hlevel props

-- that an account has the figures of a setup has one proof (a fact)
pub HasFigures-prop : (setup : Setup) (account : Account) → IsProp (HasFigures setup account)
HasFigures-prop setup account = hlevel props
