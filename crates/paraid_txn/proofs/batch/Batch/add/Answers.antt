use Rattle.std.proofs.Common.{◌≢◌, ◌∙◌, ap, arith, inl, rules, subst, sym}
use Rattle.std.specs.Prelude.{AllPairs}
use Rattle.paraid_base.proofs.XorLemmas.{same_block}
use Rattle.paraid_record.specs.declared.targets.Target.{Target}
use Rattle.paraid_txn.specs.declared.batch.Staged.{Staged}
use Rattle.paraid_image.specs.Batches.{with_target}
use Rattle.paraid_image.proofs.BatchesLemmas.{names_place-at}
use Rattle.paraid_txn.proofs.StagedLemmas.{apart-push, held, held-push, held-set, length-view}
use Rattle.paraid_txn.proofs.batch.Batch.add.Goals as goal

pub returns-in-Some-clause-ok : goal.returns-in-Some-clause-ok
returns-in-Some-clause-ok c =
    let items = c.self.inside.staged.items in
    let batch = c.args.self.now in
    let t : Target = record { disk = c.args.disk; place = c.args.place } in
    let found = c.in-Some.ensures in
    let size = length-view items batch c.self.view_is in
    held-set items batch c.self.view_is c.in-Some.at c.index_mut.result.now t c.copy_from.new.self c.self.invariant.2
    (omega arith) c.index_mut.ensures.value found.1
    ∙ ap (with_target batch t) c.copy_from.ensures

pub returns-in-Some-clause-room : goal.returns-in-Some-clause-room
returns-in-Some-clause-room c =
    let found = c.in-Some.ensures in
    inl (names_place-at c.args.self.now c.in-Some.at (record { disk = c.args.disk; place = c.args.place }) found.0 found.1)

pub invariant_of-self-2 : goal.invariant_of-self-2
invariant_of-self-2 c =
    let items = c.self.inside.staged.items in
    let s : Staged = record { target = record { disk = c.args.disk; place = c.args.place }; block = c.from_array.result } in (
      search rules,
      search rules,
      subst (AllPairs (λ s t. s.target ≢ t.target)) (sym c.push_reserved.ensures.items)
          (apart-push items c.args.self.now c.self.view_is s c.self.invariant.2 c.in_default.ensures),
    )

pub returns-clause-ok : goal.returns-clause-ok
returns-clause-ok c =
    let items = c.self.inside.staged.items in
    let batch = c.args.self.now in
    let t : Target = record { disk = c.args.disk; place = c.args.place } in
    let s : Staged = record { target = t; block = c.from_array.result } in
    ap held c.push_reserved.ensures.items ∙ held-push items batch c.self.view_is s c.in_default.ensures
    ∙ ap (with_target batch t) (same_block c.from_array.result c.args.block.now c.from_array.ensures)
