use Rattle.std.proofs.Common.{◌≢◌, ℕ, ◌<◌, get_or, Some}
use Rattle.paraid_record.specs.Targets.{no_target}
use Rattle.paraid_txn.specs.Losses.{CanWrite}
use Rattle.paraid_image.specs.Sides.{targets}
use Rattle.paraid_txn.proofs.ready.are_targets_ready.Given as goal

abbrev pub invariant-loop-at : goal.invariant-loop-at
invariant-loop-at g l = record {
  below : (k : ℕ) → k < l.at → let t = get_or (targets l.batch) k no_target in
      (t.disk < g.R.Rack.slot_count l.rack) × (l.skip ≢ Some t.disk → CanWrite (g.R.Rack.slot l.rack) t.disk t.place);
}
