use Rattle.std.proofs.Common.{ℕ, below_more, refl, subst, sym, ◌∙◌}
use Rattle.paraid_image.specs.Sound.{IsFilled}
use Rattle.paraid_plain.specs.Views.{view_at}
use Rattle.paraid_plain.proofs.TestLemmas.{accepted, before_end, none_of, refused, some_none}
use Rattle.paraid_plain.proofs.filled.are_filled.Goals as goal

pub loop-at-preserved : goal.loop-at-preserved
loop-at-preserved c =
    let view = view_at c.args.image.now c.args.says.now in
    below_more _ _ c.loop-at.invariant
    (subst (λ (to : ℕ). IsFilled view to c.loop-at.at) c.to.ensures (c.is_filled.ensures.0 c.if-not-is_filled.false))

pub returns-then-is_some : goal.returns-then-is_some
returns-then-is_some c = accepted _ (λ none. absurd (some_none c.out_of.result _ (sym c.is_some.ensures ∙ c.if-is_some.true) c.out_of.ensures none))

pub returns-then-not-is_filled : goal.returns-then-not-is_filled
returns-then-not-is_filled c =
    let view = view_at c.args.image.now c.args.says.now in
    let none = none_of c.out_of.result _ (sym c.is_some.ensures ∙ c.if-is_some.false) c.out_of.ensures in
    refused _ c.is_filled.result c.is_filled.ensures c.if-not-is_filled.true
    (λ all. subst (λ (to : ℕ). IsFilled view to c.loop-at.at) (sym c.to.ensures) (all none c.loop-at.at c.loop-at-test.true))

pub returns : goal.returns
returns c = accepted _ (λ none s low. c.loop-at.invariant s (before_end s _ _ c.loop-at.at low refl c.loop-at-test.false))
