use Rattle.paraid_gather.proofs.GatheringLemmas.{stop_between}
use Rattle.paraid_gather.proofs.laws.a_stop_between_groups.Goals as goal

pub returns : goal.returns
returns c = stop_between
