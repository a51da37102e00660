use Rattle.std.proofs.Common.{refl}
use Rattle.paraid_recover.proofs.StartStillLemmas.{each_still}
use Rattle.paraid_recover.proofs.laws_of_mounts.a_recovery_spins_no_disk_up.Goals as goal

pub returns : goal.returns
returns c b s w cs powers each at = each_still b w.spun s w cs (λ d. refl) powers each at
