use Rattle.std.proofs.Common.{ℕ, ◌<◌}
use Rattle.paraid_plain.specs.Parts.{IsStripeRebuilt}
use Rattle.paraid_plain.specs.Views.{view_at}
use Rattle.paraid_plain.proofs.rebuilt.are_stripes_rebuilt.Given as goal

abbrev pub invariant-loop-at : goal.invariant-loop-at
invariant-loop-at l = (s : ℕ) → s < l.at → IsStripeRebuilt (view_at l.image l.says) l.disk l.rebuilt s
