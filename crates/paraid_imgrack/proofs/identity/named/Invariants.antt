use Rattle.paraid_imgrack.specs.Labels.{IsAmong, label_in}
use Rattle.paraid_imgrack.proofs.NamedLemmas.{MostBelow}
use Rattle.paraid_imgrack.proofs.identity.named.Given as goal

abbrev pub invariant-loop-slot : goal.invariant-loop-slot
invariant-loop-slot l = IsAmong (label_in l.fn.labels) l.most × MostBelow (label_in l.fn.labels) l.initial.most l.most l.slot
