use Rattle.paraid_recover.proofs.SpinsLemmas.{each_recorded}
use Rattle.paraid_recover.proofs.laws_of_mounts.powers_keep_to_what_is_recorded.Goals as goal

pub returns : goal.returns
returns c m b w cs setup epoch ticks each only was = each_recorded m b setup epoch ticks w cs each only was
