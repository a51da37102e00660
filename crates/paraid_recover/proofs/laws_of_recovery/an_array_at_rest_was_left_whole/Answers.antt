use Rattle.paraid_recover.proofs.UnwrittenLemmas.{rest_whole}
use Rattle.paraid_recover.proofs.laws_of_recovery.an_array_at_rest_was_left_whole.Goals as goal

pub returns : goal.returns
returns c = rest_whole
