use Rattle.std.proofs.Common.{◌≡◌, length, map, take, vec_capacity}
use Rattle.paraid_base.specs.declared.block.Block.{Block}
use Rattle.paraid_memrack.specs.Versions.{left_bytes}
use Rattle.paraid_memrack.proofs.versions.left_blocks.Given as goal

abbrev pub invariant-loop-version : goal.invariant-loop-version
invariant-loop-version l =
    (vec_capacity l.blocks ≡ length l.versions.items) × (map (λ (b : Block). b.bytes) l.blocks.items ≡ map (left_bytes l.pick) (take l.version-index l.versions.items))
