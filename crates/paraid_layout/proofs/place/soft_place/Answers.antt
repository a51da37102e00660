use Rattle.std.proofs.Common.{arith}
use Rattle.paraid_base.proofs.RegionsLemmas.{soft_place_below}
use Rattle.paraid_layout.proofs.place.soft_place.Goals as goal

pub returns-clause-in_size : goal.returns-clause-in_size
returns-clause-in_size c = omega (arith, soft_place_below c.args.g.now c.args.a c.args.s c.requires.gear c.requires.stripe_in)
