use Rattle.std.proofs.Common.{sym}
use Rattle.paraid_base.proofs.XorLemmas.{xor_zero_right}
use Rattle.paraid_plan.proofs.read.add_if.Goals as goal

pub returns-else-added : goal.returns-else-added
returns-else-added c = rw c.if-added.false (sym (xor_zero_right c.args.sum.now))
