use Rattle.std.proofs.Common.{sym, ap, ◌∙◌, arith}
use Rattle.std.proofs.lemmas.Grind.{common_steps}
use Rattle.paraid_image.specs.Sides.{is_open}
use Rattle.paraid_image.proofs.CallLemmas.{zeroed_closed}
use Rattle.paraid_txn.proofs.gates.gate.Goals as goal

pub returns-then-opened : goal.returns-then-opened
unfolding is_open
returns-then-opened c = rw (c.set.ensures, c.if-opened.true) (grind (arith, common_steps))

pub returns-else-opened : goal.returns-else-opened
returns-else-opened c = ap is_open c.zero-block.ensures ∙ zeroed_closed ∙ sym c.if-opened.false
