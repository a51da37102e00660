use Rattle.std.proofs.Common.{ℕ, ◌<◌, ◌∙◌, sym, subst, below_more}
use Rattle.paraid_plain.proofs.TestLemmas.{accepted, before_end, refused}
use Rattle.paraid_plain.proofs.history.are_blocks_held.Goals as goal

pub returns-then-not-is_same_block : goal.returns-then-not-is_same_block
returns-then-not-is_same_block c =
    let low = subst (λ (n : ℕ). c.loop-block.block < n) c.blocks-block-end.ensures c.loop-block-test.true in
    refused _ c.is_same_block.result c.is_same_block.ensures c.if-not-is_same_block.true
    (λ all. c.home_value-held.ensures ∙ all c.loop-block.block low ∙ sym c.block_after.ensures)

pub loop-block-preserved : goal.loop-block-preserved
loop-block-preserved c =
    below_more _ _ c.loop-block.invariant
    (sym c.home_value-held.ensures ∙ c.is_same_block.ensures.0 c.if-not-is_same_block.false ∙ c.block_after.ensures)

pub returns : goal.returns
returns c = accepted _ (λ b low. c.loop-block.invariant b (before_end b _ _ c.loop-block.block low c.blocks-block-end.ensures c.loop-block-test.false))
