use Rattle.paraid_moves.proofs.MoveLemmas.{ends_shift}
use Rattle.paraid_moves.proofs.laws.a_shift_can_end.Goals as goal

pub returns : goal.returns
returns c = ends_shift
