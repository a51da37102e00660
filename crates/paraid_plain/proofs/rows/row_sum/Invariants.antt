use Rattle.std.proofs.Common.{◌≡◌}
use Rattle.paraid_base.specs.Sums.{xor_upto}
use Rattle.paraid_image.specs.Value.{value}
use Rattle.paraid_plain.specs.Views.{view_at}
use Rattle.paraid_plain.proofs.rows.row_sum.Given as goal

abbrev pub invariant-loop-disk : goal.invariant-loop-disk
invariant-loop-disk l = l.sum ≡ xor_upto (value (view_at l.image l.says) l.row) l.disk
