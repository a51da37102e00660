use Rattle.std.proofs.Common.{arith}
use Rattle.paraid_base.proofs.RegionsLemmas.{soft_place_below, soft_places_apart}
use Rattle.paraid_layout.proofs.laws.parts_lie_apart.Goals as goal

pub returns-clause-soft : goal.returns-clause-soft
returns-clause-soft c = λ a s gear l. (omega arith, soft_place_below c.args.g.now a s gear l)

pub returns-clause-stripes : goal.returns-clause-stripes
returns-clause-stripes c = soft_places_apart c.args.g.now
