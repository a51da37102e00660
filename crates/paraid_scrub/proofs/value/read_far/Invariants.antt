use Rattle.std.proofs.Common.{◌≡◌}
use Rattle.paraid_base.specs.Sums.{without, xor_upto}
use Rattle.paraid_image.specs.Value.{stored_value}
use Rattle.paraid_scrub.specs.Looks.{KeepsView}
use Rattle.paraid_scrub.proofs.value.read_far.Given as goal

abbrev pub invariant-loop-disk : goal.invariant-loop-disk
invariant-loop-disk g l = record {
  kept : KeepsView g.C.Stored.meta g.C.Stored.usable g.C.Stored.tells g.C.Stored.shows g.C.Stored.leads l.fn.core l.core
      (λ v. l.into ≡ xor_upto (without (stored_value v l.fn.row) l.fn.out) l.disk);
}
