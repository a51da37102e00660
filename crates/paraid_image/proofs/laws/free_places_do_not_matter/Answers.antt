use Rattle.paraid_image.proofs.FreeLemmas.{IsSoundAt-free}
use Rattle.paraid_image.proofs.laws.free_places_do_not_matter.Goals as goal

pub returns : goal.returns
returns c = IsSoundAt-free
