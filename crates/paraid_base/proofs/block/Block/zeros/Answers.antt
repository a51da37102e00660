use Rattle.std.proofs.Common.{List, [], ◌∷◌, ◌++◌, length, ◌∙◌, ap, arith}
use Rattle.std.proofs.lemmas.List.{length-replicate, replicate_more}
use Rattle.paraid_base.specs.declared.block.Block.{Block}
use Rattle.paraid_base.specs.Xor.{zero_block}
use Rattle.paraid_base.proofs.block.Block.zeros.Goals as goal

pub push_reserved-requires : goal.push_reserved-requires
push_reserved-requires c = omega (arith, c.loop-i.invariant.0, ap length c.loop-i.invariant.1, length-replicate {A = Block} c.loop-i._i zero_block, c.loop-i.blocks.ok.0)

pub loop-i-preserved : goal.loop-i-preserved
loop-i-preserved c = (
  c.push_reserved.ensures.capacity ∙ c.loop-i.invariant.0,
  c.push_reserved.ensures.items ∙ ap (λ (x : Block). c.loop-i.blocks.items ++ x ∷ []) c.zero.ensures ∙ ap (λ (l : List Block). l ++ zero_block ∷ []) c.loop-i.invariant.1 ∙ replicate_more c.loop-i._i zero_block,
)
