use Rattle.std.proofs.Common.{ℕ, ◌<◌}
use Rattle.paraid_imgrack.specs.Labels.{IsApart, label_in}
use Rattle.paraid_imgrack.proofs.identity.Identity.new_misfit.Given as goal

abbrev pub invariant-loop-disk : goal.invariant-loop-disk
invariant-loop-disk l = (e : ℕ) → e < l.disk → IsApart l.fn.self (label_in l.fn.labels) l.fn.label l.fn.slot e → ⊥
