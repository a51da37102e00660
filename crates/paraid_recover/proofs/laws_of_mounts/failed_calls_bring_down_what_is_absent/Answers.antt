use Rattle.paraid_recover.proofs.DownLemmas.{mount_held}
use Rattle.paraid_recover.proofs.laws_of_mounts.failed_calls_bring_down_what_is_absent.Goals as goal

pub returns : goal.returns
returns c slots s h lo down x said base cs start stands holds = mount_held slots s h lo down start x said base cs stands holds
