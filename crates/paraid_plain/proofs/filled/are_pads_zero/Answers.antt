use Rattle.std.proofs.Common.{arith, below_more}
use Rattle.paraid_plain.specs.Parts.{ArePadsZero}
use Rattle.paraid_plain.specs.Views.{view_at}
use Rattle.paraid_plain.proofs.TestLemmas.{accepted, refused}
use Rattle.paraid_plain.proofs.filled.are_pads_zero.Goals as goal

pub loop-index-preserved : goal.loop-index-preserved
loop-index-preserved c = below_more _ _ c.loop-index.invariant (c.is_pad_zero.ensures.0 c.if-not-is_pad_zero.false)

pub returns-then-not-is_pad_zero : goal.returns-then-not-is_pad_zero
returns-then-not-is_pad_zero c =
    refused (ArePadsZero (view_at c.args.image.now c.args.says.now) c.args.gear c.args.at) c.is_pad_zero.result c.is_pad_zero.ensures c.if-not-is_pad_zero.true
    (λ all. all c.loop-index.index c.loop-index-test.true)

pub returns : goal.returns
returns c =
    accepted (ArePadsZero (view_at c.args.image.now c.args.says.now) c.args.gear c.args.at)
    (λ k below. c.loop-index.invariant k (omega (arith, below, c.loop-index-test.false)))
