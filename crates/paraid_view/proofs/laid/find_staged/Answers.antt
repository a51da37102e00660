use Rattle.std.proofs.Common.{◌∙◌}
use Rattle.paraid_image.proofs.BatchesLemmas.{overlaid_block-other}
use Rattle.paraid_view.proofs.DraftLemmas.{laid_both, option_map}
use Rattle.paraid_view.proofs.laid.find_staged.Goals as goal

pub returns-in-Some : goal.returns-in-Some
returns-in-Some c any = laid_both c.args.batch.now c.args.draft.now c.args.disk c.args.place any ∙ c.in-Some.ensures _

pub returns : goal.returns
returns c =
    option_map c.get-2.result
    (λ none. λ any. laid_both c.args.batch.now c.args.draft.now c.args.disk c.args.place any ∙ c.in_default.ensures _ ∙ overlaid_block-other c.args.batch.now c.args.disk c.args.place any none)
    (λ block is. λ any. laid_both c.args.batch.now c.args.draft.now c.args.disk c.args.place any ∙ c.in_default.ensures _ ∙ is any) c.get-2.ensures
