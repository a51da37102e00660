use Rattle.paraid_progress.proofs.EndLemmas.{shift_ends}
use Rattle.paraid_progress.proofs.a_shift_ends.Goals as goal

pub returns : goal.returns
returns c setup s steps whole some each mild ticks enough = shift_ends setup steps s whole some each mild ticks enough
