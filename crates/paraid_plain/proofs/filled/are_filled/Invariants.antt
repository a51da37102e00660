use Rattle.std.proofs.Common.{ℕ, ◌<◌}
use Rattle.paraid_record.specs.Codes.{phase_to}
use Rattle.paraid_image.specs.Sound.{IsFilled}
use Rattle.paraid_plain.specs.Views.{view_at}
use Rattle.paraid_plain.proofs.filled.are_filled.Given as goal

abbrev pub invariant-loop-at : goal.invariant-loop-at
invariant-loop-at l = (s : ℕ) → s < l.at → IsFilled (view_at l.image l.says) (phase_to l.says.meta.phase) s
