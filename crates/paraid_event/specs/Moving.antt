-- Units of a shift that a tick moves, its end, and a shift up that begins.
use Rattle.std.specs.Prelude.{◌≡◌, ℕ, Some}
use Rattle.paraid_base.specs.declared.state.Out.TheVariants.{No}
use Rattle.paraid_base.specs.States.{named_out}
use Rattle.paraid_image.specs.Power.{PowerState}
use Rattle.paraid_machine.specs.Moves.{after_flip, after_loss, after_units, begun_up}
use Rattle.paraid_event.specs.Service.{IsStateOf, Service}

-- The service has gone to this state, or a disk was lost, and to the one after that loss.
pub record GoesToState (k_then : Service) (new : PowerState) : Type 0 where
  pub whole : k_then.meta.out ≡ No → IsStateOf k_then new
  pub lost : (d : ℕ) → named_out k_then.meta.out ≡ Some d → IsStateOf k_then (after_loss new d)

-- So many units of a shift were moved, and then a disk may have been lost.
pub record MovesUnits (k k_then : Service) (count : ℕ) : Type 0 where
  pub whole : k.meta.out ≡ No
  pub moved : (s : PowerState)
      → IsStateOf k s → GoesToState k_then (after_units k.meta.setup count s)

-- So many units were moved, the last ones of the shift, and it has ended.
pub record EndsShift (k k_then : Service) (count : ℕ) : Type 0 where
  pub whole : k.meta.out ≡ No
  pub moved : (s : PowerState)
      → IsStateOf k s → GoesToState k_then (after_flip (after_units k.meta.setup count s))

-- A shift up to gear `to` has begun.
pub record StartsShiftUp (k k_then : Service) (to : ℕ) : Type 0 where
  pub whole : k.meta.out ≡ No
  pub begun : (s : PowerState) → IsStateOf k s → GoesToState k_then (begun_up to s)
