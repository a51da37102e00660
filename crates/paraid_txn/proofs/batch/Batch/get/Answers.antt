use Rattle.std.proofs.Common.{◌∙◌, arith}
use Rattle.paraid_image.proofs.BatchesLemmas.{overlaid_block-at}
use Rattle.paraid_txn.proofs.StagedLemmas.{block-read, length-view, targets-apart}
use Rattle.paraid_txn.proofs.batch.Batch.get.Goals as goal

pub returns : goal.returns
returns c any =
    let items = c.self.inside.staged.items in
    let batch = c.args.self.now in
    let view = c.self.view_is in
    let found = c.in_ok-at.ensures in
    let size = length-view items batch view in
    overlaid_block-at batch c.in_ok-at.at (record { disk = c.args.disk; place = c.args.place }) any found.0 found.1 (targets-apart items batch view c.self.invariant.2)
    ∙ block-read items batch view c.in_ok-at.at c.index.result.now (omega arith) c.index.ensures
