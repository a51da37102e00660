use Rattle.paraid_plan.proofs.LostLemmas.{lost_keeps}
use Rattle.paraid_plan.proofs.laws.a_lost_disk_is_marked_out.Goals as goal

pub returns : goal.returns
returns c = lost_keeps
