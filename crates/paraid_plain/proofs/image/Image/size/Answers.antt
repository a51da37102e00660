use Rattle.std.proofs.Common.{sym, arith}
use Rattle.paraid_plain.proofs.ImageLemmas.{size_here, size_past}
use Rattle.paraid_plain.proofs.image.Image.size.Goals as goal

pub returns-in-Some : goal.returns-in-Some
returns-in-Some c =
    let found = rw c.deref.ensures.value at c.in-Some.ensures.lookup.3 in
    let size = size_here _ _ c.in-Some.slot.now found.0 (found.1 _) in
    let read = c.len.ensures in
    omega arith

pub returns-in-None : goal.returns-in-None
returns-in-None c = sym (size_past _ _ (rw c.deref.ensures.value at c.in-None.ensures.lookup.3))
