use Rattle.std.proofs.Common.{◌≡◌, ℕ, ◌<◌}
use Rattle.std.specs.Prelude.{map}
use Rattle.paraid_base.specs.History.{after}
use Rattle.paraid_base.specs.Pairs.{pairs_of}
use Rattle.paraid_image.specs.Content.{blocks_of}
use Rattle.paraid_plain.specs.Views.{view_at}
use Rattle.paraid_plain.proofs.history.are_blocks_held.Given as goal

abbrev pub invariant-loop-block : goal.invariant-loop-block
invariant-loop-block l = (b : ℕ) → b < l.block → blocks_of (view_at l.image l.says) b ≡ after (map pairs_of l.history) l.writes b
