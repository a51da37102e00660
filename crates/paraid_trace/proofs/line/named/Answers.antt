use Rattle.std.proofs.Common.{arith}
use Rattle.std.proofs.lemmas.Grind.{common_steps}
use Rattle.paraid_trace.proofs.line.named.Goals as goal

pub returns-in-r : goal.returns-in-r
returns-in-r c = grind (arith, common_steps)

pub returns-in-w : goal.returns-in-w
returns-in-w c = grind (arith, common_steps)

pub returns-in-fail : goal.returns-in-fail
returns-in-fail c = grind (arith, common_steps)

pub returns-in_default : goal.returns-in_default
returns-in_default c = grind (arith, common_steps)
