use Rattle.paraid_gather.proofs.FinishLemmas.{synced_stays}
use Rattle.paraid_gather.proofs.laws.finish_keeps_a_synced_disk.Goals as goal

pub returns : goal.returns
returns c = synced_stays
