use Rattle.std.proofs.Common.{◌≡◌, length, take, vec_capacity}
use Rattle.paraid_memrack.proofs.slot.copies_of.Given as goal

abbrev pub invariant-loop-block : goal.invariant-loop-block
invariant-loop-block l = (vec_capacity l.copies ≡ length l.blocks.items) × (l.copies.items ≡ take l.block-index l.blocks.items)
