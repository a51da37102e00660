use Rattle.std.proofs.Common.{◌≡◌, ◌≤◌}
use Rattle.paraid_imgrack.specs.Labels.{label_in}
use Rattle.paraid_imgrack.proofs.NamedLemmas.{of_array_below}
use Rattle.paraid_imgrack.proofs.identity.count.Given as goal

abbrev pub invariant-loop-slot : goal.invariant-loop-slot
invariant-loop-slot l = (l.count ≤ l.slot) × (l.count ≡ of_array_below (label_in l.fn.labels) l.fn.named l.slot)
