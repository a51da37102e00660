use Rattle.paraid_recover.proofs.WearLemmas.{refused_for_wear}
use Rattle.paraid_recover.proofs.laws_of_refusals.what_is_held_is_refused_for_wear.Goals as goal

pub returns : goal.returns
returns c = refused_for_wear
