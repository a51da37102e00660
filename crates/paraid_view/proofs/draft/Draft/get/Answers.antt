use Rattle.std.proofs.Common.{◌∙◌, arith}
use Rattle.paraid_view.proofs.DraftLemmas.{drafted_block, drafts_long, laid_last, laid_off}
use Rattle.paraid_view.proofs.draft.Draft.get.Goals as goal

pub returns : goal.returns
returns c any =
    let items = c.self.inside.drafted.items in
    let draft = c.args.self.now in
    let view = c.self.view_is in
    let found = c.in-Some.ensures in
    let size = drafts_long items draft view in
    laid_last draft c.in-Some.at (record { disk = c.args.disk; place = c.args.place }) any found.0 found.1 found.2
    ∙ drafted_block items draft view c.in-Some.at c.index.result.now (omega arith) c.index.ensures

pub returns-in_default : goal.returns-in_default
returns-in_default c any = laid_off c.args.self.now (record { disk = c.args.disk; place = c.args.place }) any c.in_default.ensures
