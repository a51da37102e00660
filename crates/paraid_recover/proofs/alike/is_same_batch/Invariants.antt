use Rattle.std.proofs.Common.{◌≡◌, ◌<◌, get_or, ℕ}
use Rattle.paraid_base.specs.Xor.{zero_block}
use Rattle.paraid_image.specs.Sides.{targets}
use Rattle.paraid_record.specs.Targets.{no_target}
use Rattle.paraid_image.specs.Batches.{batch_blocks}
use Rattle.paraid_recover.proofs.alike.is_same_batch.Given as goal

abbrev pub invariant-loop-at : goal.invariant-loop-at
invariant-loop-at l = record {
  same_targets : (k : ℕ) → k < l.at → get_or (targets l.a) k no_target ≡ get_or (targets l.b) k no_target;
  same_blocks : (k : ℕ) → k < l.at → get_or (batch_blocks l.a) k zero_block ≡ get_or (batch_blocks l.b) k zero_block;
}
