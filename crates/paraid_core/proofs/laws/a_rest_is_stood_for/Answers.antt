use Rattle.paraid_core.proofs.WriteLemmas.{rest_keeps}
use Rattle.paraid_core.proofs.laws.a_rest_is_stood_for.Goals as goal

pub returns : goal.returns
returns c = rest_keeps
