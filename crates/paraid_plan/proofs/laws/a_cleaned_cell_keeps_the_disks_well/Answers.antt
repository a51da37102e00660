use Rattle.paraid_plan.proofs.SyncLemmas.{clean_keeps}
use Rattle.paraid_plan.proofs.laws.a_cleaned_cell_keeps_the_disks_well.Goals as goal

pub returns : goal.returns
returns c = clean_keeps
