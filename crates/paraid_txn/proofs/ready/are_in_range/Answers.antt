use Rattle.std.proofs.Common.{◌<◌, length, refl, sym, ◌∙◌, subst, arith}
use Rattle.std.proofs.lemmas.Bool.{false≢true}
use Rattle.std.proofs.lemmas.List.Elements.{All-from_get_or, All-get_or}
use Rattle.paraid_record.specs.Targets.{IsTargetInRange, no_target}
use Rattle.paraid_image.specs.Sides.{targets}
use Rattle.paraid_image.proofs.NeutralLemmas.{length-targets}
use Rattle.paraid_txn.proofs.ready.are_in_range.Goals as goal

pub returns-then-not-is_in_range : goal.returns-then-not-is_in_range
returns-then-not-is_in_range c =
    let n = length-targets c.args.batch.now in
    let lt : c.loop-at.at < length (targets c.args.batch.now) = omega arith in (
      (λ is. absurd (false≢true is)),
      λ all. sym c.if-not-is_in_range.true ∙ c.is_in_range.ensures.1
          (subst (IsTargetInRange c.args.geometry.now) (sym c.target.ensures) (All-get_or (IsTargetInRange c.args.geometry.now) (targets c.args.batch.now) c.loop-at.at no_target lt all)),
    )

pub returns : goal.returns
returns c =
    let n = length-targets c.args.batch.now in
    ((λ is. All-from_get_or (IsTargetInRange c.args.geometry.now) (targets c.args.batch.now) no_target (λ k lt. c.loop-at.invariant.below k (omega arith))), λ all. refl)
