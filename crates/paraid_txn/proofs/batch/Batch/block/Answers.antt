use Rattle.std.proofs.Common.{sym, arith}
use Rattle.paraid_txn.proofs.StagedLemmas.{block-read, length-view}
use Rattle.paraid_txn.proofs.batch.Batch.block.Goals as goal

pub returns : goal.returns
returns c =
    let items = c.self.inside.staged.items in
    let view = c.self.view_is in
    sym (block-read items c.args.self.now view c.args.at c.index.result.now (omega (arith, length-view items c.args.self.now view)) c.index.ensures)
