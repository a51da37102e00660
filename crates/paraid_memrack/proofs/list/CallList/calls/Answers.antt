use Rattle.paraid_memrack.proofs.RackLemmas.{told_calls}
use Rattle.paraid_memrack.proofs.list.CallList.calls.Goals as goal

pub returns-clause-told : goal.returns-clause-told
returns-clause-told c t is = told_calls _ _ _ t is
