use Rattle.std.proofs.Common.{rules}
use Rattle.paraid_spare.proofs.SpinLemmas.{Covers-spun}
use Rattle.paraid_spare.proofs.pool.Pool.spun.Goals as goal

pub returns-clause-covers : goal.returns-clause-covers
returns-clause-covers c = λ calls ups before are. Covers-spun c.args.self.now c.loop-disk.self c.args.lo c.args.hi (λ d below. search rules) calls ups before are
