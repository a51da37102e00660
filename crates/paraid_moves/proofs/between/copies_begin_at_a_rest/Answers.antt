use Rattle.paraid_moves.proofs.RunLemmas.{copies_at_rest}
use Rattle.paraid_moves.proofs.between.copies_begin_at_a_rest.Goals as goal

pub returns : goal.returns
returns c = copies_at_rest
