use Rattle.std.specs.Prelude.{◌≢◌, ℕ, ◌<◌, ◌≤◌, length, get_or}
use Rattle.paraid_image.specs.Sides.{targets}
use Rattle.paraid_record.specs.Targets.{no_target}
use Rattle.paraid_view.proofs.draft.Draft.find.Given as goal

abbrev pub invariant-loop-at : goal.invariant-loop-at
invariant-loop-at l = record {
  within : l.at ≤ length l.fn.self;
  off : (k : ℕ) → l.at ≤ k → k < length l.fn.self → get_or (targets l.fn.self) k no_target ≢ l.fn.target;
}

abbrev pub decreases-loop-at : goal.decreases-loop-at
decreases-loop-at l = l.at
