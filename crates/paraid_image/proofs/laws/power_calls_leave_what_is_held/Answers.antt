use Rattle.paraid_image.proofs.ParkingLemmas.{park_holds, spin_up_holds}
use Rattle.paraid_image.proofs.laws.power_calls_leave_what_is_held.Goals as goal

pub returns : goal.returns
returns c = record { spin_up = spin_up_holds; park = park_holds }
