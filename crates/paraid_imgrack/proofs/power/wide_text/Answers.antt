use Rattle.std.proofs.Common.{refl}
use Rattle.paraid_imgrack.proofs.power.wide_text.Goals as goal

pub returns-in-Spinning : goal.returns-in-Spinning
returns-in-Spinning c = rw c.in-Spinning.is refl

pub returns-in-Parked : goal.returns-in-Parked
returns-in-Parked c = rw c.in-Parked.is refl

pub returns-in-Absent : goal.returns-in-Absent
returns-in-Absent c = rw c.in-Absent.is refl
