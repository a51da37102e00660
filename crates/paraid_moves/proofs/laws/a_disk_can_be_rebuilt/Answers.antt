use Rattle.paraid_moves.proofs.FailLemmas.{joins, marks_fresh, marks_units}
use Rattle.paraid_moves.proofs.laws.a_disk_can_be_rebuilt.Goals as goal

pub returns : goal.returns
returns c = record { fresh = marks_fresh; units = marks_units; joins = joins }
