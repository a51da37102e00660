use Rattle.paraid_core.proofs.WriteLemmas.{taken_write_keeps}
use Rattle.paraid_core.proofs.laws.a_taken_write_is_accepted.Goals as goal

pub returns : goal.returns
returns c = taken_write_keeps
