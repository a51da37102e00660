use Rattle.paraid_gather.proofs.AboveLemmas.{above_image}
use Rattle.paraid_gather.proofs.laws.a_stop_leaves_an_image.Goals as goal

pub returns : goal.returns
returns c = above_image
