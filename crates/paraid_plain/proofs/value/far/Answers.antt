use Rattle.std.proofs.Common.{ℕ, ◌∙◌}
use Rattle.paraid_base.specs.declared.block.Block.{Block}
use Rattle.paraid_base.proofs.SumsLemmas.{others_none, others_read, others_skip}
use Rattle.paraid_image.specs.Value.{stored_value}
use Rattle.paraid_plain.specs.Views.{view_at}
use Rattle.paraid_plain.proofs.value.far.Goals as goal
use Rattle.paraid_plain.proofs.value.far.Goals.{then-other-disk, else-other-disk}

pub loop-other-init : goal.loop-other-init
loop-other-init c = c.zero-sum.ensures ∙ others_none _ _

pub loop-other-preserved : goal.loop-other-preserved
loop-other-preserved c =
    let values : ℕ → Block = stored_value (view_at c.args.image.now c.args.says.now) c.args.row in
    elim c.if-other-disk.branch [
      | then-other-disk w ↦
          others_read values c.args.disk c.loop-other.other _ _ _ w.if-other-disk.true c.loop-other.invariant w.near.ensures (w.sum-is ∙ w.xor_into.ensures)
      | else-other-disk w ↦ w.sum-is ∙ c.loop-other.invariant ∙ others_skip values c.args.disk c.loop-other.other w.if-other-disk.false
    ]
