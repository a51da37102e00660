use Rattle.std.proofs.Common.{◌≡◌, length, map, take, vec_capacity}
use Rattle.paraid_memrack.specs.Versions.{synced_block}
use Rattle.paraid_memrack.proofs.versions.firm_versions.Given as goal

abbrev pub invariant-loop-block : goal.invariant-loop-block
invariant-loop-block l = (vec_capacity l.versions ≡ length l.blocks.items) × (l.versions.items ≡ map synced_block (take l.block-index l.blocks.items))
