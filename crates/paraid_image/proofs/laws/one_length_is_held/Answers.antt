use Rattle.paraid_image.proofs.StandingLemmas.{IsSoundAt-length}
use Rattle.paraid_image.proofs.laws.one_length_is_held.Goals as goal

pub returns : goal.returns
returns c = IsSoundAt-length
