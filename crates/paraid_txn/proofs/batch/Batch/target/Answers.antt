use Rattle.std.proofs.Common.{sym, arith}
use Rattle.paraid_txn.proofs.StagedLemmas.{length-view, target-read}
use Rattle.paraid_txn.proofs.batch.Batch.target.Goals as goal

pub returns : goal.returns
returns c =
    let items = c.self.inside.staged.items in
    let view = c.self.view_is in
    sym (target-read items c.args.self.now view c.args.at c.index.result.now (omega (arith, length-view items c.args.self.now view)) c.index.ensures)
