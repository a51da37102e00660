use Rattle.paraid_gather.proofs.GatheringLemmas.{stop_within}
use Rattle.paraid_gather.proofs.laws.a_stop_within_a_group.Goals as goal

pub returns : goal.returns
returns c = stop_within
