use Rattle.paraid_core.proofs.UnitCopyLemmas.{stripes_after_units, units_begin}
use Rattle.paraid_core.proofs.units.units_are_copied_beside_stripes.Goals as goal

pub returns : goal.returns
returns c = record { units = units_begin; stripes = stripes_after_units }
