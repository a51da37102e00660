use Rattle.std.proofs.Common.{sym}
use Rattle.paraid_plain.proofs.ImageLemmas.{power_here, power_past}
use Rattle.paraid_plain.proofs.image.Image.power.Goals as goal

pub returns-in-Some : goal.returns-in-Some
returns-in-Some c =
    let found = rw c.deref.ensures.value at c.in-Some.ensures.lookup.3 in
    sym (power_here _ _ _ found.0 (found.1 _))

pub returns-in-None : goal.returns-in-None
returns-in-None c = sym (power_past _ _ (rw c.deref.ensures.value at c.in-None.ensures.lookup.3))
