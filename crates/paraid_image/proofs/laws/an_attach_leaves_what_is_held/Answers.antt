use Rattle.paraid_image.proofs.SwapLemmas.{IsHeld-attached}
use Rattle.paraid_image.proofs.laws.an_attach_leaves_what_is_held.Goals as goal

pub returns : goal.returns
returns c = IsHeld-attached
