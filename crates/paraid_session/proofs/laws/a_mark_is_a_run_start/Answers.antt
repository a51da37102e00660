use Rattle.paraid_session.proofs.RunStartLemmas.{mark_entry}
use Rattle.paraid_session.proofs.laws.a_mark_is_a_run_start.Goals as goal

pub returns : goal.returns
returns c = mark_entry
