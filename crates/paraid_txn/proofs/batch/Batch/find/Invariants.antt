use Rattle.std.proofs.Common.{◌≢◌, ℕ, ◌<◌, get_or}
use Rattle.paraid_record.specs.Targets.{no_target}
use Rattle.paraid_image.specs.Sides.{targets}
use Rattle.paraid_txn.proofs.batch.Batch.find.Given as goal

abbrev pub invariant-loop-at : goal.invariant-loop-at
invariant-loop-at l = (k : ℕ) → k < l.at → get_or (targets l.self) k no_target ≢ l.target
