use Rattle.paraid_volume.proofs.IsolationLemmas.{created_zero}
use Rattle.paraid_volume.proofs.laws.a_created_volume_reads_zeros.Goals as goal

pub returns : goal.returns
returns c = created_zero
