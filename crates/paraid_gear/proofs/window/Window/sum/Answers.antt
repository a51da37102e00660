use Rattle.std.proofs.Common.{arith}
use Rattle.paraid_gear.proofs.SumLemmas.{sums-small}
use Rattle.paraid_gear.proofs.window.Window.sum.Goals as goal

pub returns-clause-small : goal.returns-clause-small
returns-clause-small c =
    let keeps = c.self.invariant in
    omega (arith, (sums-small c.self.inside.ring.items c.self.inside.sum c.self.inside.squares keeps.3 (omega (arith, keeps.1, keeps.2))).0)
