use Rattle.std.proofs.Common.{ℕ, ◌<◌}
use Rattle.paraid_record.specs.Range.{IsSpinCount}
use Rattle.paraid_record.proofs.meta.Meta.are_spins_in_range.Given as goal

abbrev pub invariant-loop-disk : goal.invariant-loop-disk
invariant-loop-disk l = (k : ℕ) → k < l.disk → IsSpinCount l.self k
