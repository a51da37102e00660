use Rattle.std.proofs.Common.{◌≡◌}
use Rattle.paraid_base.specs.Sums.{xor_upto}
use Rattle.paraid_image.specs.Value.{stripe}
use Rattle.paraid_plain.specs.Views.{block_at}
use Rattle.paraid_plain.proofs.stripes.stripe_sum.Given as goal

abbrev pub invariant-loop-disk : goal.invariant-loop-disk
invariant-loop-disk l = l.sum ≡ xor_upto (stripe l.says.meta.setup.geometry (block_at l.image l.says) l.gear l.at) l.disk
