use Rattle.paraid_dirty.proofs.BitsLemmas.{bit_is_set}
use Rattle.paraid_dirty.proofs.bits.set_bit.Goals as goal

pub returns-clause-bits : goal.returns-clause-bits
returns-clause-bits c = bit_is_set c.args.words.now c.args.at c.requires
