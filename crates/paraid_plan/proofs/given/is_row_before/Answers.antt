use Rattle.std.proofs.Common.{◌∙◌, sym, arith}
use Rattle.paraid_plan.proofs.ManyLemmas.{pair_below}
use Rattle.paraid_plan.proofs.PairLemmas.{rows_next, rows_none}
use Rattle.paraid_plan.proofs.given.is_row_before.Goals as goal

pub home-q-requires : goal.home-q-requires
home-q-requires c = let test = c.loop-before-test.true in let low = c.requires.at in pair_below c.args.pairs.now _ c.loop-before.before c.requires.blocks (omega (arith, test, low))

pub loop-before-init : goal.loop-before-init
loop-before-init c = rows_none c.args.g.now.disks c.args.pairs.now c.args.r

pub loop-before-preserved : goal.loop-before-preserved
loop-before-preserved c =
    let test = c.loop-before-test.true in
    let low = c.requires.at in
    rows_next c.args.g.now.disks c.args.pairs.now c.loop-before.before c.args.r c.home-q.result.0 c.loop-before.found (omega (arith, test, low)) c.home-q.ensures.row c.loop-before.invariant
    ∙ sym c.either-found.ensures
