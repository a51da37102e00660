use Rattle.paraid_event.proofs.QuietLemmas.{fail_no_disk, fail_out, replace_no_disk, replace_not_out}
use Rattle.paraid_event.proofs.quiet.a_disk_is_refused.Goals as goal

pub returns : goal.returns
returns c = record {
  fail_no_disk = λ told k setup p d at fit past. fail_no_disk told k setup p at fit d past;
  fail_out = λ told k setup p d e at fit low out. fail_out told k setup p at fit d e low out;
  replace_no_disk = λ told k setup p d at fit past. replace_no_disk told k setup p at fit d past;
  replace_not_out = λ told k setup p d at fit low not. replace_not_out told k setup p at fit d low not;
}
