use Rattle.std.proofs.Common.{arith}
use Rattle.std.proofs.lemmas.Grind.{common_steps}
use Rattle.paraid_trace.proofs.replies.tell_state.Goals as goal

pub tell_spins-requires-clause-old : goal.tell_spins-requires-clause-old
tell_spins-requires-clause-old c = grind (arith, common_steps)

pub tell_spins-requires-clause-few : goal.tell_spins-requires-clause-few
tell_spins-requires-clause-few c = grind (arith, common_steps)

pub returns-clause-value : goal.returns-clause-value
returns-clause-value c = grind (arith, common_steps)

pub returns-clause-length : goal.returns-clause-length
returns-clause-length c = grind (arith, common_steps)
