use Rattle.paraid_recover.proofs.BeginsLemmas.{begins_without, presence_lost}
use Rattle.paraid_recover.proofs.laws_of_mounts.a_mount_without_a_log_disk_begins_with_the_state_left.Goals as goal

pub returns : goal.returns
returns c = record {
  begins = λ s said calls d y other standing first stands same is dirty. begins_without s said calls d y other standing first stands same is dirty;
  left = λ s calls n skip d e each alone off. presence_lost s calls n skip d each alone off e;
}
