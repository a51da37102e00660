-- That a meta is in range is a fact with one proof, so that a value can carry it.
use Rattle.std.specs.Prelude.{ℕ}
use Rattle.std.proofs.Props.{props}
use Rattle.paraid_base.specs.declared.geometry.Geometry.{Geometry}
use Rattle.paraid_base.specs.declared.state.Out.{Out}
use Rattle.paraid_base.specs.declared.state.Out.TheVariants.{No, Gone, Fresh}
use Rattle.paraid_base.specs.declared.state.Phase.{Phase}
use Rattle.paraid_base.specs.declared.state.Phase.TheVariants.{Steady, Down, Up}
use Rattle.paraid_record.specs.declared.meta.Meta.{Meta}
use Rattle.paraid_record.specs.Range.{IsInRange, IsOutInRange, IsPhaseInRange}

IsPhaseInRange-prop : (g : Geometry) (gear : ℕ) (phase : Phase)
    → IsProp (IsPhaseInRange g gear phase)
IsPhaseInRange-prop g gear Steady = hlevel props
IsPhaseInRange-prop g gear (Down to) = hlevel props
IsPhaseInRange-prop g gear (Up to) = hlevel props

IsOutInRange-prop : (g : Geometry) (gear : ℕ) (out : Out) → IsProp (IsOutInRange g gear out)
IsOutInRange-prop g gear No = hlevel props
IsOutInRange-prop g gear (Gone disk) = hlevel props
IsOutInRange-prop g gear (Fresh disk rebuilt) = hlevel props

-- that a meta is in range has one proof (a fact)
pub IsInRange-prop : (m : Meta) → IsProp (IsInRange m)
IsInRange-prop m = hlevel (props, IsPhaseInRange-prop, IsOutInRange-prop)
