use Rattle.std.proofs.Common.{◌≡◌, ◌++◌, ◌∷◌, ℕ, List, [], take, ap, arith, sym, ◌∙◌, rules}
use Rattle.std.proofs.lemmas.List.{take_all, take_more, take_more_set}
use Rattle.paraid_record.specs.declared.targets.Target.{Target}
use Rattle.paraid_record.specs.Targets.{no_target}
use Rattle.paraid_image.specs.Sides.{targets}
use Rattle.paraid_image.proofs.NeutralLemmas.{length-targets}
use Rattle.paraid_txn.proofs.StagedLemmas.{length-view, target-read, targets-apart}
use Rattle.paraid_txn.proofs.batch.Batch.targets.Goals as goal

pub loop-at-preserved : goal.loop-at-preserved
loop-at-preserved c =
    let items = c.self.inside.staged.items in
    let batch = c.args.self.now in
    let at = c.loop-at.at in
    let size = length-view items batch c.self.view_is in
    let all = length-targets batch in
    let here = target-read items batch c.self.view_is at c.index.result.now (omega arith) c.index.ensures in (
      search rules,
      take_more_set c.loop-at.targets.list at c.index.result.now.target (omega arith)
          ∙ ap (λ (front : List Target). front ++ c.index.result.now.target ∷ []) c.loop-at.invariant.1
          ∙ ap (λ (t : Target). take at (targets batch) ++ t ∷ []) (sym here)
          ∙ sym (take_more (targets batch) at no_target (omega arith)),
      c.loop-at.invariant.2,
    )

pub returns-clause-value : goal.returns-clause-value
returns-clause-value c =
    let batch = c.args.self.now in
    let size = length-view c.self.inside.staged.items batch c.self.view_is in
    let all = length-targets batch in
    let count = c.loop-at.invariant.2 in
    let last : c.loop-at.targets.count ≡ c.loop-at.at = omega (arith, count) in
    ap (λ (k : ℕ). take k c.loop-at.targets.list) last ∙ c.loop-at.invariant.1 ∙ take_all c.loop-at.at (targets batch) (omega arith)

pub returns-clause-distinct : goal.returns-clause-distinct
returns-clause-distinct c = targets-apart c.self.inside.staged.items c.args.self.now c.self.view_is c.self.invariant.2
