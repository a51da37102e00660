use Rattle.std.proofs.Common.{arith, below_more}
use Rattle.paraid_plain.specs.Images.{disks_in}
use Rattle.paraid_plain.specs.LogParts.{IsSingle}
use Rattle.paraid_plain.proofs.TestLemmas.{accepted, refused}
use Rattle.paraid_plain.proofs.log.is_single.Goals as goal

pub returns-then-not-is_single_with : goal.returns-then-not-is_single_with
returns-then-not-is_single_with c =
    refused (IsSingle (disks_in c.args.image.now).power c.args.says.now.meta) c.is_single_with.result c.is_single_with.ensures c.if-not-is_single_with.true
    (λ all. all c.loop-disk.disk)

pub loop-disk-preserved : goal.loop-disk-preserved
loop-disk-preserved c = below_more _ _ c.loop-disk.invariant (c.is_single_with.ensures.0 c.if-not-is_single_with.false)

pub returns : goal.returns
returns c =
    accepted (IsSingle (disks_in c.args.image.now).power c.args.says.now.meta)
    (λ d e missing other. c.loop-disk.invariant d (let l = missing.disk in omega arith) e missing other)
