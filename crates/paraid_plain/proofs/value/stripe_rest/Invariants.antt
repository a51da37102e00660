use Rattle.std.proofs.Common.{◌≡◌}
use Rattle.paraid_base.specs.Sums.{without, xor_upto}
use Rattle.paraid_image.specs.Value.{stripe}
use Rattle.paraid_plain.specs.Views.{block_at}
use Rattle.paraid_plain.proofs.value.stripe_rest.Given as goal

abbrev pub invariant-loop-other : goal.invariant-loop-other
invariant-loop-other l =
    l.sum ≡ xor_upto (without (stripe l.says.meta.setup.geometry (block_at l.image l.says) l.gear l.stripe) l.disk) l.other
