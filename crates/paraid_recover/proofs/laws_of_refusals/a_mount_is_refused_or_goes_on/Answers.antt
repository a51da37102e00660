use Rattle.paraid_recover.proofs.ExactLemmas.{refused_or_examined}
use Rattle.paraid_recover.proofs.laws_of_refusals.a_mount_is_refused_or_goes_on.Goals as goal

pub returns : goal.returns
returns c = refused_or_examined
