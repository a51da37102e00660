use Rattle.std.proofs.Common.{arith}
use Rattle.paraid_plan.proofs.AloneLemmas.{xor_from_three}
use Rattle.paraid_plan.proofs.alone.xor_both.Goals as goal

pub returns : goal.returns
returns c = xor_from_three _ _ _ _ (λ k l. c.loop-i.invariant.done k (omega arith))
