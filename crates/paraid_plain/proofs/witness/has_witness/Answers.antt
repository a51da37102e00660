use Rattle.std.proofs.Common.{ap}
use Rattle.paraid_base.specs.declared.block.Block.{Block}
use Rattle.paraid_image.specs.Sides.{is_open}
use Rattle.paraid_plain.proofs.witness.has_witness.Goals as goal

pub returns : goal.returns
unfolding is_open
returns c = ap (λ (b : Block). is_open b) c.stored.ensures
