use Rattle.std.proofs.Common.{◌≡◌, ℕ, ◌<◌, IfSome}
use Rattle.paraid_imgrack.specs.Labels.{label_in}
use Rattle.paraid_imgrack.proofs.identity.is_whole.Given as goal

abbrev pub invariant-loop-slot : goal.invariant-loop-slot
invariant-loop-slot l = (d : ℕ) → d < l.slot → d < l.fn.named.disks → IfSome (label_in l.fn.labels d) (λ m. m.array ≡ l.fn.named.array)
