use Rattle.std.proofs.Common.{ℕ, ◌<◌}
use Rattle.paraid_imgrack.specs.Labels.{IsBehind}
use Rattle.paraid_imgrack.proofs.identity.Identity.is_past_one.Given as goal

abbrev pub invariant-loop-disk : goal.invariant-loop-disk
invariant-loop-disk l = (e : ℕ) → e < l.disk → IsBehind l.fn.self l.fn.label l.fn.slot e → ⊥
