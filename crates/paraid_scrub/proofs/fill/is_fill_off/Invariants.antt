use Rattle.std.proofs.Common.{◌≡◌, ◌<◌, ℕ, IsTrue}
use Rattle.std.specs.Prelude.{◌↔◌}
use Rattle.paraid_base.specs.Sums.{xor_upto}
use Rattle.paraid_image.specs.Value.{stripe}
use Rattle.paraid_scrub.specs.Counts.{IsCopyRight}
use Rattle.paraid_scrub.specs.Looks.{KeepsView}
use Rattle.paraid_scrub.proofs.fill.is_fill_off.Given as goal

abbrev pub invariant-loop-disk : goal.invariant-loop-disk
invariant-loop-disk g l = record {
  kept : KeepsView g.C.Stored.meta g.C.Stored.usable g.C.Stored.tells g.C.Stored.shows g.C.Stored.leads l.fn.core l.core
      (λ v. (l.sum ≡ xor_upto (stripe (g.C.Stored.meta l.fn.core).setup.geometry v.block l.fn.gear l.fn.at) l.disk)
      × (IsTrue l.off ↔ (((x : ℕ) → x < l.disk → IsCopyRight v l.fn.gear l.fn.at x) → ⊥)));
}
