use Rattle.std.proofs.Common.{arith}
use Rattle.paraid_trace.proofs.PeriodLemmas.{one_byte_tested}
use Rattle.paraid_trace.proofs.periods.is_one_byte.Goals as goal

pub returns : goal.returns
returns c = one_byte_tested c.args.bytes.now c.loop-at.is_one c.requires (λ is k lt. c.loop-at.invariant.same is k (omega arith)) (λ all. c.loop-at.invariant.one (λ k lt. all k (omega arith)))
