use Rattle.paraid_spare.proofs.SpinLemmas.{Covers-none}
use Rattle.paraid_spare.proofs.pool.Pool.new.Goals as goal

pub returns-clause-covers : goal.returns-clause-covers
returns-clause-covers c = Covers-none _
