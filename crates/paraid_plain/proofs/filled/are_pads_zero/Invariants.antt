use Rattle.std.proofs.Common.{ℕ, ◌<◌}
use Rattle.paraid_plain.specs.Parts.{IsPadZero}
use Rattle.paraid_plain.specs.Views.{view_at}
use Rattle.paraid_plain.proofs.filled.are_pads_zero.Given as goal

abbrev pub invariant-loop-index : goal.invariant-loop-index
invariant-loop-index l = (k : ℕ) → k < l.index → IsPadZero (view_at l.image l.says) l.gear l.at k
