use Rattle.std.proofs.Common.{arith, sym}
use Rattle.std.proofs.lemmas.List.{length-drop}
use Rattle.paraid_gear.proofs.SumLemmas.{sums-fewer}
use Rattle.paraid_gear.proofs.window.Window.make_room.Goals as goal

pub invariant_of-self : goal.invariant_of-self
invariant_of-self c =
    let items = c.self.inside.ring.items in
    let keeps = c.self.invariant in
    let few = sums-fewer items c.in-Some.oldest c.self.inside.sum c.self.inside.squares keeps.3 (sym c.in-Some.ensures.value) in
    rw c.pop_front.ensures.items (keeps.0, keeps.1, omega (arith, keeps.2, length-drop 1 items), few.2)
