use Rattle.paraid_plan.proofs.KeptPlaceLemmas.{kept_places_tell}
use Rattle.paraid_plan.proofs.laws.kept_places_alone_tell.Goals as goal

pub returns : goal.returns
returns c = kept_places_tell
