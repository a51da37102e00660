use Rattle.paraid_moves.proofs.MoveLemmas.{marks_stripes}
use Rattle.paraid_moves.proofs.laws.copied_stripes_can_be_marked.Goals as goal

pub returns : goal.returns
returns c = marks_stripes
