use Rattle.paraid_volume.proofs.IsolationLemmas.{elsewhere}
use Rattle.paraid_volume.proofs.laws.calls_on_other_volumes_leave_a_volume.Goals as goal

pub returns : goal.returns
returns c = elsewhere
