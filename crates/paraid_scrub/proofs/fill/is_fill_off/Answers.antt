use Rattle.paraid_core.proofs.AfterLemmas.{handed}
use Rattle.paraid_core.proofs.ErrLemmas.{none_done_if}
use Rattle.std.proofs.Common.{◌≡◌, ◌<◌, ◌+◌, ◌∙◌, ℕ, IsTrue, sym, ap, subst, arith}
use Rattle.std.specs.Prelude.{◌↔◌}
use Rattle.paraid_base.specs.Regions.{IsGear}
use Rattle.paraid_base.specs.Soft.{stripe_count}
use Rattle.paraid_base.specs.Sums.{xor_upto}
use Rattle.paraid_base.specs.Xor.{xor}
use Rattle.paraid_record.specs.declared.meta.Meta.{Meta}
use Rattle.paraid_image.specs.Sound.{IsStripeZero}
use Rattle.paraid_image.specs.Value.{stripe}
use Rattle.paraid_scrub.specs.Counts.{IsCopyRight, IsFillRight}
use Rattle.paraid_scrub.specs.Looks.{IsReadable}
use Rattle.paraid_scrub.proofs.FillLemmas.{all_more, all_parts, fill_parts, fill_whole, none_off}
use Rattle.paraid_scrub.proofs.LookedLemmas.{either_off, is_not_zero, keeps_none, keeps_so, keeps_then, sum_more, sum_none}
use Rattle.paraid_scrub.proofs.fill.is_fill_off.Goals as goal

pub loop-disk-init : goal.loop-disk-init
loop-disk-init g c = record {
  kept = keeps_none c.args.core.now (g.met.C.Stored.stays c.args.core.now c.requires.usable) c.requires.usable (λ v s. (sum_none _ _ c.zero-sum.ensures, none_off (λ x l. absurd (omega (arith, l)))));
}

pub look_at_copy-requires : goal.look_at_copy-requires
look_at_copy-requires g c = record {
  usable = c.loop-disk.invariant.kept.still;
  gear = subst (λ (z : Meta). IsGear z.setup.geometry c.args.gear) (sym c.loop-disk.invariant.kept.same) c.requires.gear;
  region = subst (λ (z : Meta). c.args.gear < z.setup.geometry.disks) (sym c.loop-disk.invariant.kept.same) c.requires.region;
  at =
      subst (λ (z : Meta). c.args.at < stripe_count z.setup.geometry.disks z.setup.geometry.rows c.args.gear) (sym c.loop-disk.invariant.kept.same) c.requires.at;
  disk = c.loop-disk-test.true;
  readable = subst (λ (z : Meta). IsReadable z c.loop-disk.disk) (sym c.loop-disk.invariant.kept.same) (c.requires.readable c.loop-disk.disk (omega arith));
}

pub loop-disk-preserved : goal.loop-disk-preserved
loop-disk-preserved g c =
    let m = g.C.Stored.meta c.args.core.now in
    let was = c.loop-disk.invariant.kept in
    record {
      kept = keeps_then
          (λ v. (c.look_at_copy.new.sum ≡ xor_upto (stripe m.setup.geometry v.block c.args.gear c.args.at) (c.loop-disk.disk + 1)) × (IsTrue c.either-off.result ↔ (((x : ℕ) → x < c.loop-disk.disk + 1 → IsCopyRight v c.args.gear c.args.at x) → ⊥)))
          g.met.C.Stored.then g.met.C.Stored.told was c.in_ok-look_at_copy.ensures.shown
          (λ v s before one. (
            sum_more (stripe m.setup.geometry v.block c.args.gear c.args.at) c.loop-disk.disk _ _ before.0 (one.0 ∙ ap (λ (z : Meta). xor c.loop-disk.sum (stripe z.setup.geometry v.block c.args.gear c.args.at c.loop-disk.disk)) was.same),
            either_off {P = (x : ℕ) → x < c.loop-disk.disk → IsCopyRight v c.args.gear c.args.at x} {Q = IsCopyRight v c.args.gear c.args.at c.loop-disk.disk} {R = (x : ℕ) → x < c.loop-disk.disk + 1 → IsCopyRight v c.args.gear c.args.at x}
                c.loop-disk.off _ c.either-off.result before.1 one.1 c.either-off.ensures (all_parts v c.args.gear c.args.at c.loop-disk.disk) (all_more v c.args.gear c.args.at c.loop-disk.disk),
          ));
    }

pub returns : goal.returns
returns g c = record {
  shown =
      let m = g.C.Stored.meta c.args.core.now in
      keeps_so (λ v. IsTrue c.either.result ↔ (IsFillRight v c.args.gear c.args.at → ⊥)) c.loop-disk.invariant.kept
      (λ v s is.
      let e = (g.met.C.Stored.agrees c.args.core.now v s).0 in
      let all : c.loop-disk.disk ≡ c.args.gear = omega arith in
      let sum = is.0 ∙ ap (xor_upto (stripe m.setup.geometry v.block c.args.gear c.args.at)) all ∙ ap (λ (z : Meta). xor_upto (stripe z.setup.geometry v.block c.args.gear c.args.at) c.args.gear) (sym e) in
      let cells = subst (λ (n : ℕ). IsTrue c.loop-disk.off ↔ (((x : ℕ) → x < n → IsCopyRight v c.args.gear c.args.at x) → ⊥)) all is.1 in
      either_off {P = (x : ℕ) → x < c.args.gear → IsCopyRight v c.args.gear c.args.at x} {Q = IsStripeZero v c.args.gear c.args.at} {R = IsFillRight v c.args.gear c.args.at} c.loop-disk.off _ c.either.result cells
      (is_not_zero c.is_zero.result c.loop-disk.sum _ c.is_zero.ensures sum) c.either.ensures (fill_parts v c.args.gear c.args.at) (fill_whole v c.args.gear c.args.at (m.setup.geometry.gears_low c.args.gear c.requires.gear)));
  lost = tt;
}

pub returns-in_err-look_at_copy : goal.returns-in_err-look_at_copy
returns-in_err-look_at_copy g c = record {
  shown = none_done_if _ c.from_residual.result _ c.from_residual.ensures.1;
  lost = handed (g.C.Stored.loses c.args.core.now c.look_at_copy.new.core) c.from_residual.result _ c.from_residual.ensures.1 (g.met.C.Stored.then_lost _ _ _ _ c.loop-disk.invariant.kept.goes c.in_err-look_at_copy.ensures.lost);
}
