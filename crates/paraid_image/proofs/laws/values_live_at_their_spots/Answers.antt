use Rattle.paraid_image.proofs.SpotLemmas.{value_at_spot}
use Rattle.paraid_image.proofs.laws.values_live_at_their_spots.Goals as goal

pub returns : goal.returns
returns c = value_at_spot
