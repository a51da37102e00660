use Rattle.paraid_volume.proofs.IsolationLemmas.{own_alike}
use Rattle.paraid_volume.proofs.laws.a_volume_answers_by_its_own_calls.Goals as goal

pub returns : goal.returns
returns c = own_alike
