use Rattle.paraid_image.specs.Value.{value}
use Rattle.paraid_plain.specs.Views.{view_at}
use Rattle.paraid_plain.proofs.SumLemmas.{sum_all, sum_more, sum_none}
use Rattle.paraid_plain.proofs.rows.row_sum.Goals as goal

pub loop-disk-init : goal.loop-disk-init
loop-disk-init c = sum_none (value (view_at c.args.image.now c.args.says.now) c.args.row) _ c.zero-sum.ensures

pub loop-disk-preserved : goal.loop-disk-preserved
loop-disk-preserved c =
    sum_more (value (view_at c.args.image.now c.args.says.now) c.args.row) c.loop-disk.disk _ _ _ c.loop-disk.invariant c.cell_value.ensures c.xor_into.ensures

pub cell_value-requires-clause-row : goal.cell_value-requires-clause-row
cell_value-requires-clause-row c = c.requires

pub cell_value-requires-clause-disk : goal.cell_value-requires-clause-disk
cell_value-requires-clause-disk c = c.loop-disk-test.true

pub returns : goal.returns
returns c =
    let says = c.args.says.now in
    sum_all (value (view_at c.args.image.now says) c.args.row) says.meta.setup.geometry.disks c.loop-disk.disk c.loop-disk.sum c.loop-disk.invariant c.loop-disk.auto.disk-end c.loop-disk-test.false
