use Rattle.paraid_edge.proofs.EdgeEndLemmas.{no_memory_is_own}
use Rattle.paraid_edge.proofs.edge.end_without_memory.Goals as goal

pub returns : goal.returns
returns g c k = c.end.ensures k (no_memory_is_own k)
