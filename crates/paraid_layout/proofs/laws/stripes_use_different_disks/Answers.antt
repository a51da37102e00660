use Rattle.paraid_base.proofs.SoftLemmas.{soft_places_differ}
use Rattle.paraid_layout.proofs.laws.stripes_use_different_disks.Goals as goal

pub returns-clause-cells : goal.returns-clause-cells
returns-clause-cells c = soft_places_differ
