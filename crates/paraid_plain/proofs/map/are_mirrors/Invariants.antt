use Rattle.std.proofs.Common.{◌≡◌, ℕ, ◌<◌}
use Rattle.paraid_base.specs.Log.{map_block_place}
use Rattle.paraid_plain.specs.Views.{block_at}
use Rattle.paraid_plain.proofs.map.are_mirrors.Given as goal

abbrev pub invariant-loop-at : goal.invariant-loop-at
invariant-loop-at l = (j : ℕ) → j < l.at → block_at l.image l.says 0 (map_block_place l.says.meta.setup.geometry j) ≡ block_at l.image l.says 1 (map_block_place l.says.meta.setup.geometry j)
