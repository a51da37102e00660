use Rattle.std.proofs.Common.{◌≡◌}
use Rattle.paraid_base.specs.Sums.{without, xor_upto}
use Rattle.paraid_image.specs.Value.{stripe}
use Rattle.paraid_scrub.specs.Looks.{KeepsView}
use Rattle.paraid_scrub.proofs.value.sum_stripe.Given as goal

abbrev pub invariant-loop-disk : goal.invariant-loop-disk
invariant-loop-disk g l = record {
  kept : KeepsView g.C.Stored.meta g.C.Stored.usable g.C.Stored.tells g.C.Stored.shows g.C.Stored.leads l.fn.core l.core
      (λ v. l.into ≡ xor_upto (without (stripe (g.C.Stored.meta l.fn.core).setup.geometry v.block l.fn.gear l.fn.at) l.fn.skipped) l.disk);
}
