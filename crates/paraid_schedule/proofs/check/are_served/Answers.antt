use Rattle.std.proofs.Common.{refl, below_more}
use Rattle.paraid_schedule.proofs.TestLemmas.{refused, before_end}
use Rattle.paraid_schedule.proofs.check.are_served.Goals as goal

pub returns-then-not-is_served : goal.returns-then-not-is_served
returns-then-not-is_served c =
    refused _ c.is_served.result c.is_served.ensures c.if-not-is_served.true (λ all. all c.loop-t.t c.loop-t-test.true)

pub loop-t-preserved : goal.loop-t-preserved
loop-t-preserved c = below_more _ _ c.loop-t.invariant (c.is_served.ensures.0 c.if-not-is_served.false)

pub returns : goal.returns
returns c = (λ _ k low. c.loop-t.invariant k (before_end k _ _ low c.loop-t-test.false), λ _. refl)
