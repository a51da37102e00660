use Rattle.std.proofs.Common.{ℕ, ◌<◌}
use Rattle.paraid_image.specs.Sound.{IsStripeZero}
use Rattle.paraid_plain.specs.Views.{view_at}
use Rattle.paraid_plain.proofs.stripes.are_stripes_zero.Given as goal

abbrev pub invariant-loop-at : goal.invariant-loop-at
invariant-loop-at l = (s : ℕ) → s < l.at → IsStripeZero (view_at l.image l.says) l.says.meta.gear s
