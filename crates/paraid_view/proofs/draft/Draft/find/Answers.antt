use Rattle.std.proofs.Common.{◌-◌, ◌∙◌, ℕ, sym, ap, arith, inl, inr, get_or}
use Rattle.std.proofs.lemmas.Bool.{cases_eq}
use Rattle.paraid_image.specs.Sides.{targets}
use Rattle.paraid_record.specs.Targets.{no_target}
use Rattle.paraid_image.proofs.BatchesLemmas.{other_target, same_target}
use Rattle.paraid_view.proofs.DraftLemmas.{drafted_target, drafts_long}
use Rattle.paraid_view.proofs.draft.Draft.find.Goals as goal

pub returns-then-eq : goal.returns-then-eq
returns-then-eq c =
    let items = c.self.inside.drafted.items in
    let draft = c.args.self.now in
    let s = c.index.result.now in
    let size = drafts_long items draft c.self.view_is in
    let test = c.loop-at-test.true in
    let within = c.loop-at.invariant.within in (
      omega arith,
      drafted_target items draft c.self.view_is (c.loop-at.at - 1) s (omega arith) c.index.ensures ∙ same_target s.target c.args.target (sym c.if-eq.ensures),
      λ k low below. c.loop-at.invariant.off k (omega arith) below,
    )

pub loop-at-preserved : goal.loop-at-preserved
loop-at-preserved c =
    let items = c.self.inside.drafted.items in
    let draft = c.args.self.now in
    let s = c.index.result.now in
    let size = drafts_long items draft c.self.view_is in
    let test = c.loop-at-test.true in
    let within = c.loop-at.invariant.within in
    let here = drafted_target items draft c.self.view_is (c.loop-at.at - 1) s (omega arith) c.index.ensures in
    record {
      within = omega arith;
      off = λ k low below e. elim (cases_eq k (c.loop-at.at - 1)) [
        | inl is ↦ other_target s.target c.args.target (sym c.if-eq.ensures) (sym here ∙ ap (λ (n : ℕ). get_or (targets draft) n no_target) (sym is) ∙ e)
        | inr apart ↦ c.loop-at.invariant.off k (omega arith) below e
      ];
    }
