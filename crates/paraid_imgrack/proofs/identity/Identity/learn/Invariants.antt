use Rattle.paraid_imgrack.proofs.LooksLemmas.{LearnsBelow}
use Rattle.paraid_imgrack.proofs.identity.Identity.learn.Given as goal

abbrev pub invariant-loop-disk : goal.invariant-loop-disk
invariant-loop-disk l = LearnsBelow l.fn.self l.self l.fn.label l.fn.slot l.disk
