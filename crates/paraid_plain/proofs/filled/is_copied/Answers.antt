use Rattle.std.proofs.Common.{ℕ, ap, sym, ◌∙◌}
use Rattle.paraid_image.specs.Value.{stripe}
use Rattle.paraid_plain.specs.Parts.{IsCopied}
use Rattle.paraid_plain.specs.Views.{block_at, view_at}
use Rattle.paraid_plain.proofs.TestLemmas.{accepted, reworded}
use Rattle.paraid_plain.proofs.filled.is_copied.Goals as goal

pub returns-then-stripe-at : goal.returns-then-stripe-at
returns-then-stripe-at c = accepted _ (λ same. absurd (c.if-stripe-at.true (c.soft_of-stripe.ensures.stripe ∙ same)))

pub returns : goal.returns
returns c =
    let image = c.args.image.now in
    let says = c.args.says.now in
    let stored = c.stripe_block.ensures
    ∙ ap (λ (d : ℕ). stripe says.meta.setup.geometry (block_at image says) c.args.gear c.args.at d) c.soft_of-stripe.ensures.disk in
    reworded (IsCopied (view_at image says) c.args.gear c.args.at c.args.row c.args.disk) c.is_same_block.result c.is_same_block.ensures
    (λ same _. sym stored ∙ same ∙ c.cell_value.ensures)
    (λ all. stored ∙ all (sym c.soft_of-stripe.ensures.stripe ∙ c.if-stripe-at.false) ∙ sym c.cell_value.ensures)
