use Rattle.std.proofs.Common.{◌≡◌, ℕ, vec_capacity, length}
use Rattle.paraid_gather.specs.Waiting.{none_waits, waiting_at}
use Rattle.paraid_gather.proofs.gathered.no_runs.Given as goal

abbrev pub invariant-loop-made : goal.invariant-loop-made
invariant-loop-made l = (vec_capacity l.runs ≡ 8) × (length l.runs.items ≡ l._made) × ((d : ℕ) → waiting_at l.runs.items d ≡ none_waits)
