use Rattle.std.proofs.Common.{ℕ, ◌<◌, get_or}
use Rattle.paraid_record.specs.Targets.{IsTargetInRange, no_target}
use Rattle.paraid_image.specs.Sides.{targets}
use Rattle.paraid_txn.proofs.ready.are_in_range.Given as goal

abbrev pub invariant-loop-at : goal.invariant-loop-at
invariant-loop-at l = record { below : (k : ℕ) → k < l.at → IsTargetInRange l.geometry (get_or (targets l.batch) k no_target) }
