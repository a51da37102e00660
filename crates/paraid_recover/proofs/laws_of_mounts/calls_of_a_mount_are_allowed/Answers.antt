use Rattle.std.proofs.Common.{refl}
use Rattle.paraid_recover.proofs.CallsLemmas.{commit_mount, each_allowed, mark_mount, power_mount, reads_mount, sync_mount}
use Rattle.paraid_session.specs.Mount.{start_watch}
use Rattle.paraid_recover.proofs.laws_of_mounts.calls_of_a_mount_are_allowed.Goals as goal

pub returns : goal.returns
returns c = record {
  reads = reads_mount;
  resumes = commit_mount;
  syncs = sync_mount;
  marks = mark_mount;
  powers = power_mount;
  allowed = λ said s down base cs each recorded. each_allowed said _ (start_watch s down base) cs refl refl each recorded;
}
