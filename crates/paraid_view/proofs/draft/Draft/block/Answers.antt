use Rattle.std.proofs.Common.{sym, arith}
use Rattle.paraid_view.proofs.DraftLemmas.{drafted_block, drafts_long}
use Rattle.paraid_view.proofs.draft.Draft.block.Goals as goal

pub returns : goal.returns
returns c =
    let items = c.self.inside.drafted.items in
    let view = c.self.view_is in
    sym (drafted_block items c.args.self.now view c.args.at c.index.result.now (omega (arith, drafts_long items c.args.self.now view)) c.index.ensures)
