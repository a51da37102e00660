use Rattle.std.proofs.Common.{◌≡◌}
use Rattle.paraid_base.specs.Sums.{without, xor_upto}
use Rattle.paraid_image.specs.Value.{stored_value}
use Rattle.paraid_plain.specs.Views.{view_at}
use Rattle.paraid_plain.proofs.value.far.Given as goal

abbrev pub invariant-loop-other : goal.invariant-loop-other
invariant-loop-other l = l.sum ≡ xor_upto (without (stored_value (view_at l.image l.says) l.row) l.disk) l.other
