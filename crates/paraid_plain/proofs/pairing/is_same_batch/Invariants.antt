use Rattle.std.proofs.Common.{ℕ, ◌<◌}
use Rattle.paraid_plain.specs.LogParts.{IsSameTarget}
use Rattle.paraid_plain.proofs.pairing.is_same_batch.Given as goal

abbrev pub invariant-loop-at : goal.invariant-loop-at
invariant-loop-at l = (k : ℕ) → k < l.at → IsSameTarget l.image l.a l.b k
