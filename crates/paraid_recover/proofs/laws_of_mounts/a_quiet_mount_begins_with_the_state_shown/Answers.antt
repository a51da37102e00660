use Rattle.paraid_recover.proofs.BeginsLemmas.{begins_quietly}
use Rattle.paraid_recover.proofs.laws_of_mounts.a_quiet_mount_begins_with_the_state_shown.Goals as goal

pub returns : goal.returns
returns c s said calls n skip standing each none is dirty = begins_quietly s said calls n skip standing each none is dirty
