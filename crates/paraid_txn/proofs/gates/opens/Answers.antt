use Rattle.std.proofs.Common.{refl}
use Rattle.paraid_image.specs.Sides.{is_open}
use Rattle.paraid_txn.proofs.gates.opens.Goals as goal

pub returns : goal.returns
unfolding is_open
returns c = rw c.as_slice.ensures.value refl
