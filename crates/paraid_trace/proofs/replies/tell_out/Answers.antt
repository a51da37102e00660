use Rattle.std.proofs.Common.{arith}
use Rattle.std.proofs.lemmas.Grind.{common_steps}
use Rattle.paraid_trace.proofs.replies.tell_out.Goals as goal

pub returns-in-No-clause-value : goal.returns-in-No-clause-value
returns-in-No-clause-value c = grind (arith, common_steps)

pub returns-in-Gone-clause-value : goal.returns-in-Gone-clause-value
returns-in-Gone-clause-value c = grind (arith, common_steps)

pub returns-in-Fresh-clause-value : goal.returns-in-Fresh-clause-value
returns-in-Fresh-clause-value c = grind (arith, common_steps)

pub returns-in-No-clause-length : goal.returns-in-No-clause-length
returns-in-No-clause-length c = grind (arith, common_steps)

pub returns-in-Gone-clause-length : goal.returns-in-Gone-clause-length
returns-in-Gone-clause-length c = grind (arith, common_steps)

pub returns-in-Fresh-clause-length : goal.returns-in-Fresh-clause-length
returns-in-Fresh-clause-length c = grind (arith, common_steps)
