use Rattle.paraid_plan.proofs.KeptPlaceLemmas.{stored_is_kept}
use Rattle.paraid_plan.proofs.laws.what_is_stored_is_kept_well.Goals as goal

pub returns : goal.returns
returns c = stored_is_kept
