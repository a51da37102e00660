use Rattle.std.specs.Prelude.{◌≡◌, true}
use Rattle.paraid_imgrack.proofs.LooksLemmas.{LearnedBelow, SeenBelow}
use Rattle.paraid_imgrack.specs.Labels.{IsNamed, label_in}
use Rattle.paraid_imgrack.proofs.identity.Identity.of.Given as goal

abbrev pub invariant-loop-slot : goal.invariant-loop-slot
invariant-loop-slot l = IsNamed (label_in l.fn.labels) l.identity
    × (LearnedBelow (label_in l.fn.labels) l.identity l.slot
    × (SeenBelow (label_in l.fn.labels) l.identity l.slot × (l.identity.is_new ≡ true)))
