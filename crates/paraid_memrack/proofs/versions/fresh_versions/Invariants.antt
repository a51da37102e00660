use Rattle.std.proofs.Common.{◌≡◌, replicate, vec_capacity}
use Rattle.paraid_base.specs.Xor.{zero_block}
use Rattle.paraid_memrack.specs.Versions.{synced_block}
use Rattle.paraid_memrack.proofs.versions.fresh_versions.Given as goal

abbrev pub invariant-loop-i : goal.invariant-loop-i
invariant-loop-i l = (vec_capacity l.versions ≡ l.size) × (l.versions.items ≡ replicate l._i (synced_block zero_block))
