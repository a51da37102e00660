use Rattle.paraid_progress.proofs.EndLemmas.{rebuild_ends}
use Rattle.paraid_progress.proofs.a_rebuild_ends.Goals as goal

pub returns : goal.returns
returns c setup s d rebuilt steps fresh each mild ticks enough = rebuild_ends setup steps s d rebuilt fresh each mild ticks enough
