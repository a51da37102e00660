use Rattle.std.proofs.Common.{◌≢◌, ◌<◌, length, Some, refl, sym, ◌∙◌, subst, arith}
use Rattle.std.proofs.lemmas.Bool.{false≢true}
use Rattle.std.proofs.lemmas.List.Elements.{All-from_get_or, All-get_or}
use Rattle.paraid_record.specs.declared.targets.Target.{Target}
use Rattle.paraid_record.specs.Targets.{no_target}
use Rattle.paraid_txn.specs.Losses.{CanWrite}
use Rattle.paraid_image.specs.Sides.{targets}
use Rattle.paraid_image.proofs.NeutralLemmas.{length-targets}
use Rattle.paraid_txn.proofs.ready.are_targets_ready.Goals as goal

pub returns-then-not-is_target_ready : goal.returns-then-not-is_target_ready
returns-then-not-is_target_ready g c =
    let n = length-targets c.args.batch.now in
    let lt : c.loop-at.at < length (targets c.args.batch.now) = omega arith in (
      (λ is. absurd (false≢true is)),
      λ all. sym c.if-not-is_target_ready.true ∙ c.is_target_ready.ensures.1
          (subst (λ (t : Target). (t.disk < g.R.Rack.slot_count c.args.rack.now) × (c.args.skip ≢ Some t.disk → CanWrite (g.R.Rack.slot c.args.rack.now) t.disk t.place))
          (sym c.target.ensures) (All-get_or (λ (t : Target). (t.disk < g.R.Rack.slot_count c.args.rack.now) × (c.args.skip ≢ Some t.disk → CanWrite (g.R.Rack.slot c.args.rack.now) t.disk t.place)) (targets c.args.batch.now) c.loop-at.at no_target lt all)),
    )

pub returns : goal.returns
returns g c =
    let n = length-targets c.args.batch.now in
    ((λ is. All-from_get_or (λ (t : Target). (t.disk < g.R.Rack.slot_count c.args.rack.now) × (c.args.skip ≢ Some t.disk → CanWrite (g.R.Rack.slot c.args.rack.now) t.disk t.place)) (targets c.args.batch.now) no_target (λ k lt. c.loop-at.invariant.below k (omega arith))), λ all. refl)
