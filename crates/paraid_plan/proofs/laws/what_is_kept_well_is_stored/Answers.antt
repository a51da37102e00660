use Rattle.paraid_plan.proofs.KeptPlaceLemmas.{kept_is_stored}
use Rattle.paraid_plan.proofs.laws.what_is_kept_well_is_stored.Goals as goal

pub returns : goal.returns
returns c = kept_is_stored
