use Rattle.std.proofs.Common.{◌≡◌, vec_capacity, replicate}
use Rattle.paraid_base.specs.Xor.{zero_block}
use Rattle.paraid_base.proofs.block.Block.zeros.Given as goal

abbrev pub invariant-loop-i : goal.invariant-loop-i
invariant-loop-i l = (vec_capacity l.blocks ≡ l.count) × (l.blocks.items ≡ replicate l._i zero_block)
