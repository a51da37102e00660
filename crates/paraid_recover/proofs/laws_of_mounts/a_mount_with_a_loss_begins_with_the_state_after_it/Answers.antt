use Rattle.paraid_recover.proofs.BeginsLemmas.{begins_losing}
use Rattle.paraid_recover.proofs.laws_of_mounts.a_mount_with_a_loss_begins_with_the_state_after_it.Goals as goal

pub returns : goal.returns
returns c s said calls d standing mark first is out dirty = begins_losing s said calls d standing mark first is out dirty
