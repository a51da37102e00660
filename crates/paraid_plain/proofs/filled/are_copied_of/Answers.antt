use Rattle.std.proofs.Common.{arith}
use Rattle.paraid_plain.specs.Parts.{AreCopied}
use Rattle.paraid_plain.specs.Views.{view_at}
use Rattle.paraid_plain.proofs.TestLemmas.{accepted, more_between, refused}
use Rattle.paraid_plain.proofs.filled.are_copied_of.Goals as goal

pub loop-disk-init : goal.loop-disk-init
loop-disk-init c d low high = absurd (omega arith)

pub loop-disk-preserved : goal.loop-disk-preserved
loop-disk-preserved c = more_between _ _ _ c.loop-disk.invariant (c.is_copied.ensures.0 c.if-not-is_copied.false)

pub returns-then-not-is_copied : goal.returns-then-not-is_copied
returns-then-not-is_copied c =
    refused (AreCopied (view_at c.args.image.now c.args.says.now) c.args.gear c.args.at c.args.row) c.is_copied.result c.is_copied.ensures c.if-not-is_copied.true
    (λ all. all c.loop-disk.disk c.loop-disk.auto.disk c.loop-disk-test.true)

pub returns : goal.returns
returns c =
    accepted (AreCopied (view_at c.args.image.now c.args.says.now) c.args.gear c.args.at c.args.row)
    (λ d low high. c.loop-disk.invariant d low (omega arith))
