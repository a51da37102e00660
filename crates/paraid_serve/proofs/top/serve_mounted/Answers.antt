use Rattle.paraid_serve.proofs.ExitLemmas.{headline}
use Rattle.paraid_serve.proofs.top.serve_mounted.Goals as goal

pub returns-clause-headline : goal.returns-clause-headline
returns-clause-headline g c began mounted = headline _ _ _ _ _ _ _ mounted c.serve.ensures.run
