use Rattle.std.proofs.Common.{◌≡◌, List, arith, length, sym, ◌∙◌}
use Rattle.paraid_base.specs.Log.{batch_room}
use Rattle.paraid_record.specs.declared.targets.Target.{Target}
use Rattle.paraid_image.specs.Sides.{stored_block}
use Rattle.paraid_plain.specs.Images.{disks_in}
use Rattle.paraid_plain.specs.Statements.{batch_in}
use Rattle.paraid_plain.proofs.ViewLemmas.{laid_end, laid_hit, laid_miss}
use Rattle.paraid_plain.proofs.view.laid.Goals as goal
use Rattle.paraid_plain.proofs.view.laid.Goals.{then-is_target, else-is_target}

pub loop-at-preserved : goal.loop-at-preserved
loop-at-preserved c =
    let says = c.args.says.now in
    let log = stored_block (disks_in c.args.image.now) says.disk in
    let list : List Target = says.targets.list in
    let long : length list ≡ batch_room = search arith in
    let at = c.loop-at.at in
    let test = c.is_target.result in
    c.loop-at.invariant ∙ elim c.if-is_target.branch [
      | then-is_target w ↦
          laid_hit log list says.targets.count c.args.disk c.args.place long says.few at c.loop-at.block c.if-is_target.block c.loop-at-test.true test c.is_target.ensures w.if-is_target.true
          (w.block-is ∙ w.stored-block-then-is_target.ensures)
      | else-is_target w ↦
          laid_miss log list says.targets.count c.args.disk c.args.place long says.few at c.loop-at.block c.if-is_target.block c.loop-at-test.true test c.is_target.ensures w.if-is_target.false w.block-is
    ]

pub returns : goal.returns
unfolding batch_in
returns c =
    let says = c.args.says.now in
    let log = stored_block (disks_in c.args.image.now) says.disk in
    sym (c.loop-at.invariant ∙ laid_end log says.targets.list says.targets.count c.args.disk c.args.place c.loop-at.at c.loop-at.block c.loop-at-test.false)
