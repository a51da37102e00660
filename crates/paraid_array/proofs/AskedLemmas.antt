-- Shifts that are asked for, as events.
use Rattle.std.proofs.Common.{◌≡◌, ◌≢◌, ℕ, ◌+◌, ◌≤◌, min, true, refl}
use Rattle.paraid_base.specs.declared.event.Event.TheVariants.{Bad, Down as AskDown, Up as AskUp}
use Rattle.paraid_image.specs.Power.{PowerState}
use Rattle.paraid_record.specs.declared.meta.Setup.{Setup}
use Rattle.paraid_serve.proofs.QuietLemmas.{used_nothing}
use Rattle.paraid_session.specs.Turn.{may_halt, own_energy}
use Rattle.paraid_upkeep.specs.Directions.{asked_event}
use Rattle.paraid_upkeep.specs.declared.asked.Direction.{Direction}
use Rattle.paraid_upkeep.specs.declared.asked.Direction.TheVariants.{Down, Up}

pub asked_not_bad : (direction : Direction) → asked_event direction ≢ Bad
asked_not_bad Up is = let z : AskUp ≡ Bad = is in cc
asked_not_bad Down is = let z : AskDown ≡ Bad = is in cc

-- a halt may be the answer
pub asked_may_halt : (direction : Direction) → may_halt (asked_event direction) ≡ true
asked_may_halt Up = refl
asked_may_halt Down = refl

-- it uses nothing where two disks are lost in it
pub asked_nothing : (direction : Direction) (setup : Setup) (s : PowerState) (n : ℕ) → n ≤ 18446744073709551615 → n ≡ min (n + own_energy setup s (asked_event direction)) 18446744073709551615
asked_nothing Up setup s n fits = used_nothing n fits
asked_nothing Down setup s n fits = used_nothing n fits
