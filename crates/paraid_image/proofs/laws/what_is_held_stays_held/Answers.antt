use Rattle.paraid_image.proofs.HeldLemmas.{IsHeld-more}
use Rattle.paraid_image.proofs.laws.what_is_held_stays_held.Goals as goal

pub returns : goal.returns
returns c = IsHeld-more
