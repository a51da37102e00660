use Rattle.std.proofs.Common.{ℕ, ◌<◌}
use Rattle.paraid_plain.specs.Parts.{IsMapRebuilt}
use Rattle.paraid_plain.specs.Views.{view_at}
use Rattle.paraid_plain.proofs.rebuilt.is_map_rebuilt.Given as goal

abbrev pub invariant-loop-at : goal.invariant-loop-at
invariant-loop-at l = (j : ℕ) → j < l.at → IsMapRebuilt (view_at l.image l.says) l.disk l.rebuilt j
