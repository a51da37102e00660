use Rattle.paraid_gather.proofs.GatheringLemmas.{stop_of_gathered}
use Rattle.paraid_gather.proofs.laws.a_stop_of_a_gathered_rack_is_a_stop_above.Goals as goal

pub returns : goal.returns
returns c = stop_of_gathered
