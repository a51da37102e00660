use Rattle.std.proofs.Common.{◌≡◌, length, take}
use Rattle.paraid_base.specs.Log.{batch_room}
use Rattle.paraid_image.specs.Sides.{targets}
use Rattle.paraid_txn.proofs.batch.Batch.targets.Given as goal

abbrev pub invariant-loop-at : goal.invariant-loop-at
invariant-loop-at l = (length l.targets.list ≡ batch_room) × (take l.at l.targets.list ≡ take l.at (targets l.self)) × (l.targets.count ≡ length l.self)
