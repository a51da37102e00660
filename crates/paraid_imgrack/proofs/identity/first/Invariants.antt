use Rattle.std.proofs.Common.{ℕ, ◌<◌, ◌≤◌, IfSome}
use Rattle.paraid_imgrack.specs.Labels.{label_in}
use Rattle.paraid_imgrack.proofs.identity.first.Given as goal

abbrev pub invariant-loop-slot : goal.invariant-loop-slot
invariant-loop-slot l = (d : ℕ) → d < l.slot → IfSome (label_in l.fn.labels d) (λ x. x.disks ≤ d)
