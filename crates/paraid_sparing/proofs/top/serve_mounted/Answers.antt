use Rattle.paraid_sparing.proofs.TopLemmas.{headline}
use Rattle.paraid_sparing.proofs.top.serve_mounted.Goals as goal

pub returns-clause-headline : goal.returns-clause-headline
returns-clause-headline g c began mounted = headline _ _ _ _ _ _ _ _ mounted c.serve.ensures.run
