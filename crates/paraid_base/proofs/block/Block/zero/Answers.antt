use Rattle.std.proofs.Common.{refl}
use Rattle.paraid_base.specs.Bytes.{zeros_small, length-zeros}
use Rattle.paraid_base.specs.Xor.{zero_block}
use Rattle.paraid_base.proofs.XorLemmas.{same_block}
use Rattle.paraid_base.proofs.block.Block.zero.Goals as goal

pub invariant_of-result : goal.invariant_of-result
invariant_of-result c = record { whole = length-zeros 512; small = zeros_small 512 }

pub returns : goal.returns
unfolding zero_block
returns c = same_block _ _ refl
