use Rattle.paraid_volume.proofs.LivesLemmas.{left_by}
use Rattle.paraid_volume.proofs.laws.a_stop_leaves_a_first_part_of_the_calls.Goals as goal

pub returns : goal.returns
returns c = left_by
