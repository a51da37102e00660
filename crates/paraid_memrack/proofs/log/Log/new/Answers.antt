use Rattle.paraid_memrack.proofs.PlanLemmas.{counted_none}
use Rattle.paraid_memrack.proofs.log.Log.new.Goals as goal

pub invariant_of-result-clause-counted : goal.invariant_of-result-clause-counted
invariant_of-result-clause-counted c = counted_none _ c.in-Ok.ensures.items
