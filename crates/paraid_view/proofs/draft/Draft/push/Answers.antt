use Rattle.std.proofs.Common.{◌∙◌, ◌++◌, ◌∷◌, [], ap}
use Rattle.paraid_base.specs.declared.block.Block.{Block}
use Rattle.paraid_base.proofs.XorLemmas.{same_block}
use Rattle.paraid_record.specs.declared.targets.Target.{Target}
use Rattle.paraid_view.specs.declared.draft.Drafted.{Drafted}
use Rattle.paraid_view.proofs.DraftLemmas.{drafted_push, drafts}
use Rattle.paraid_view.proofs.draft.Draft.push.Goals as goal

pub returns : goal.returns
returns c =
    let items = c.self.inside.drafted.items in
    let t : Target = record { disk = c.args.disk; place = c.args.place } in
    let s : Drafted = record { target = t; block = c.from_array.result } in
    ap drafts c.push_reserved.ensures.items ∙ drafted_push items c.args.self.now c.self.view_is s
    ∙ ap (λ (b : Block). c.args.self.now ++ (t, b) ∷ []) (same_block c.from_array.result c.args.block.now c.from_array.ensures)
