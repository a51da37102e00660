use Rattle.std.proofs.Common.{ℕ}
use Rattle.paraid_base.specs.declared.block.Block.{Block}
use Rattle.paraid_image.specs.Value.{stripe}
use Rattle.paraid_plain.specs.Views.{block_at}
use Rattle.paraid_plain.proofs.SumLemmas.{sum_more, sum_none}
use Rattle.paraid_plain.proofs.stripes.stripe_sum.Goals as goal

pub loop-disk-init : goal.loop-disk-init
loop-disk-init c = sum_none (stripe c.args.says.now.meta.setup.geometry (block_at c.args.image.now c.args.says.now) c.args.gear c.args.at) _ c.zero-sum.ensures

pub loop-disk-preserved : goal.loop-disk-preserved
loop-disk-preserved c =
    let says = c.args.says.now in
    let blocks : ℕ → Block = stripe says.meta.setup.geometry (block_at c.args.image.now says) c.args.gear c.args.at in
    sum_more blocks c.loop-disk.disk _ _ _ c.loop-disk.invariant c.stripe_block.ensures c.xor_into.ensures
