use Rattle.std.proofs.Common.{arith}
use Rattle.paraid_parity.proofs.BlockPlaces.{xor_from_places}
use Rattle.paraid_parity.proofs.xor_into.Goals as goal

pub returns : goal.returns
returns c = xor_from_places _ _ _ (λ k l. c.loop-i.invariant.done k (omega arith))
