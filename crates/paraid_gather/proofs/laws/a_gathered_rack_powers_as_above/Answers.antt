use Rattle.paraid_gather.proofs.GatheringLemmas.{power_calls_of_gathered}
use Rattle.paraid_gather.proofs.laws.a_gathered_rack_powers_as_above.Goals as goal

pub returns : goal.returns
returns c = power_calls_of_gathered
