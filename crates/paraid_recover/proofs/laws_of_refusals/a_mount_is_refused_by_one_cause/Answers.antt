use Rattle.paraid_recover.proofs.CauseLemmas.{one_cause}
use Rattle.paraid_recover.proofs.laws_of_refusals.a_mount_is_refused_by_one_cause.Goals as goal

pub returns : goal.returns
returns c = one_cause
