use Rattle.std.proofs.Common.{◌≡◌, ℕ, ◌<◌}
use Rattle.paraid_base.specs.Sums.{xor_upto}
use Rattle.paraid_base.specs.Xor.{zero_block}
use Rattle.paraid_image.specs.Value.{value}
use Rattle.paraid_plain.specs.Views.{view_at}
use Rattle.paraid_plain.proofs.rows.are_rows_zero.Given as goal

abbrev pub invariant-loop-row : goal.invariant-loop-row
invariant-loop-row l = (r : ℕ) → r < l.row → xor_upto (value (view_at l.image l.says) r) l.says.meta.setup.geometry.disks ≡ zero_block
