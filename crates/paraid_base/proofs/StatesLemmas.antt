-- What a phase keeps once a disk is out.
use Rattle.std.proofs.Common.{◌≡◌, ℕ, true, refl}
use Rattle.paraid_base.specs.declared.state.Phase.{Phase}
use Rattle.paraid_base.specs.declared.state.Phase.TheVariants.{Steady, Down, Up}
use Rattle.paraid_base.specs.States.{phase_beside, rising_to}

pub rising_to-beside : (phase : Phase) → rising_to (phase_beside true phase) ≡ rising_to phase
rising_to-beside Steady = refl
rising_to-beside (Down to) = refl
rising_to-beside (Up to) = refl

pub up_before : (phase : Phase) (to : ℕ) → phase_beside true phase ≡ Up to → phase ≡ Up to
up_before Steady to is = cc
up_before (Down low) to is = cc
up_before (Up high) to is = is
