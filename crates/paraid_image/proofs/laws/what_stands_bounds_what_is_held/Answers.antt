use Rattle.paraid_image.proofs.CloseLemmas.{IsHeld-raised}
use Rattle.paraid_image.proofs.laws.what_stands_bounds_what_is_held.Goals as goal

pub returns : goal.returns
returns c = IsHeld-raised
