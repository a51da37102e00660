use Rattle.std.proofs.Common.{below_more}
use Rattle.paraid_plain.proofs.log.is_single_with.Goals as goal

pub loop-other-preserved : goal.loop-other-preserved
loop-other-preserved c = below_more _ _ c.loop-other.invariant (c.is_alone_beside.ensures.0 c.if-not-is_alone_beside.false)
