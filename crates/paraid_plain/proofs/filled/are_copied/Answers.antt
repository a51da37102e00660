use Rattle.std.proofs.Common.{◌<◌, ℕ, arith, below_more}
use Rattle.paraid_plain.specs.Parts.{AreCopied}
use Rattle.paraid_plain.specs.Views.{view_at}
use Rattle.paraid_plain.proofs.TestLemmas.{accepted, refused}
use Rattle.paraid_plain.proofs.filled.are_copied.Goals as goal

pub loop-row-preserved : goal.loop-row-preserved
loop-row-preserved c = below_more _ _ c.loop-row.invariant (c.are_copied_of.ensures.0 c.if-not-are_copied_of.false)

pub returns-then-not-are_copied_of : goal.returns-then-not-are_copied_of
returns-then-not-are_copied_of c =
    let says = c.args.says.now in
    refused ((r : ℕ) → r < says.meta.setup.geometry.rows → AreCopied (view_at c.args.image.now says) c.args.gear c.args.at r) c.are_copied_of.result c.are_copied_of.ensures
    c.if-not-are_copied_of.true (λ all. all c.loop-row.row c.loop-row-test.true)

pub returns : goal.returns
returns c =
    let says = c.args.says.now in
    accepted ((r : ℕ) → r < says.meta.setup.geometry.rows → AreCopied (view_at c.args.image.now says) c.args.gear c.args.at r)
    (λ r below. c.loop-row.invariant r (omega arith))
