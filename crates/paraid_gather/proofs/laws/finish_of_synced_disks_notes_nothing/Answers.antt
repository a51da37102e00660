use Rattle.paraid_gather.proofs.FinishLemmas.{none_lost}
use Rattle.paraid_gather.proofs.laws.finish_of_synced_disks_notes_nothing.Goals as goal

pub returns : goal.returns
returns c = none_lost
