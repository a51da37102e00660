use Rattle.std.proofs.Common.{ℕ, ◌<◌, subst, below_more}
use Rattle.paraid_plain.proofs.TestLemmas.{accepted, before_end, not_so, refused}
use Rattle.paraid_plain.proofs.stripes.are_stripes_zero.Goals as goal

pub returns-then-not-is_off_stripes : goal.returns-then-not-is_off_stripes
returns-then-not-is_off_stripes c = accepted _ (λ off. absurd (not_so c.is_off_stripes.result c.is_off_stripes.ensures c.if-not-is_off_stripes.true off))

pub returns-then-not-is_stripe_zero : goal.returns-then-not-is_stripe_zero
returns-then-not-is_stripe_zero c =
    let off = c.is_off_stripes.ensures.0 c.if-not-is_off_stripes.false in
    let low = subst (λ (n : ℕ). c.loop-at.at < n) c.stripes-at-end.ensures c.loop-at-test.true in
    refused _ c.is_stripe_zero.result c.is_stripe_zero.ensures c.if-not-is_stripe_zero.true (λ all. all off c.loop-at.at low)

pub loop-at-preserved : goal.loop-at-preserved
loop-at-preserved c = below_more _ _ c.loop-at.invariant (c.is_stripe_zero.ensures.0 c.if-not-is_stripe_zero.false)

pub returns : goal.returns
returns c = accepted _ (λ off s low. c.loop-at.invariant s (before_end s _ _ c.loop-at.at low c.stripes-at-end.ensures c.loop-at-test.false))
