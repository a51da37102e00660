use Rattle.std.proofs.Common.{sym, ◌∙◌, arith, below_more}
use Rattle.paraid_image.proofs.BatchesLemmas.{names_place-off}
use Rattle.paraid_txn.proofs.StagedLemmas.{length-view, target-read}
use Rattle.paraid_txn.proofs.batch.Batch.find.Goals as goal

pub returns-then-is_same : goal.returns-then-is_same
returns-then-is_same c =
    let items = c.self.inside.staged.items in
    let batch = c.args.self.now in
    let s = c.index.result.now in
    let size = length-view items batch c.self.view_is in (
      omega arith,
      target-read items batch c.self.view_is c.loop-at.at s (omega arith) c.index.ensures ∙ c.is_same.ensures.same c.if-is_same.true,
    )

pub loop-at-preserved : goal.loop-at-preserved
loop-at-preserved c =
    let items = c.self.inside.staged.items in
    let s = c.index.result.now in
    let here = target-read items c.args.self.now c.self.view_is c.loop-at.at s (omega arith) c.index.ensures in
    below_more _ _ c.loop-at.invariant (λ e. c.is_same.ensures.other c.if-is_same.false (sym here ∙ e))

pub returns : goal.returns
returns c =
    let size = length-view c.self.inside.staged.items c.args.self.now c.self.view_is in
    names_place-off c.args.self.now c.args.target (λ k below. c.loop-at.invariant k (omega arith))
