use Rattle.paraid_core.proofs.AfterLemmas.{handed}
use Rattle.paraid_core.proofs.ErrLemmas.{none_done}
use Rattle.std.proofs.Common.{◌≡◌, ◌<◌, ◌+◌, ◌∙◌, sym, ap, subst, arith}
use Rattle.paraid_base.specs.Regions.{IsGear}
use Rattle.paraid_base.specs.Soft.{stripe_count}
use Rattle.paraid_base.specs.Sums.{without, xor_upto}
use Rattle.paraid_base.specs.Xor.{xor}
use Rattle.paraid_record.specs.declared.meta.Meta.{Meta}
use Rattle.paraid_image.specs.Value.{stripe}
use Rattle.paraid_scrub.specs.Looks.{IsReadable}
use Rattle.paraid_scrub.proofs.LookedLemmas.{keeps_none, keeps_so, keeps_then, sum_more, sum_none}
use Rattle.paraid_scrub.proofs.value.sum_stripe.Goals as goal

pub loop-disk-init : goal.loop-disk-init
loop-disk-init g c = record {
  kept = keeps_none c.args.core.now (g.met.C.Stored.stays c.args.core.now c.requires.usable) c.requires.usable (λ v s. sum_none _ _ c.zero.ensures);
}

pub add_member-requires : goal.add_member-requires
add_member-requires g c = record {
  usable = c.loop-disk.invariant.kept.still;
  gear = subst (λ (z : Meta). IsGear z.setup.geometry c.args.gear) (sym c.loop-disk.invariant.kept.same) c.requires.gear;
  region = subst (λ (z : Meta). c.args.gear < z.setup.geometry.disks) (sym c.loop-disk.invariant.kept.same) c.requires.region;
  at =
      subst (λ (z : Meta). c.args.at < stripe_count z.setup.geometry.disks z.setup.geometry.rows c.args.gear) (sym c.loop-disk.invariant.kept.same) c.requires.at;
  readable = λ ne.
      subst (λ (z : Meta). IsReadable z c.loop-disk.disk) (sym c.loop-disk.invariant.kept.same) (c.requires.readable c.loop-disk.disk (omega arith) ne);
}

pub loop-disk-preserved : goal.loop-disk-preserved
loop-disk-preserved g c =
    let m = g.C.Stored.meta c.args.core.now in
    let was = c.loop-disk.invariant.kept in
    record {
      kept = keeps_then (λ v. c.add_member.new.sum ≡ xor_upto (without (stripe m.setup.geometry v.block c.args.gear c.args.at) c.args.skipped) (c.loop-disk.disk + 1)) g.met.C.Stored.then g.met.C.Stored.told
          was c.in_ok-add_member.ensures.shown
          (λ v s sum is. sum_more (without (stripe m.setup.geometry v.block c.args.gear c.args.at) c.args.skipped) c.loop-disk.disk _ _ sum
          (is ∙ ap (λ (z : Meta). xor c.loop-disk.into (without (stripe z.setup.geometry v.block c.args.gear c.args.at) c.args.skipped c.loop-disk.disk)) was.same));
    }

pub returns : goal.returns
returns g c = record {
  shown =
      let m = g.C.Stored.meta c.args.core.now in
      keeps_so (λ v. c.loop-disk.into ≡ xor_upto (without (stripe m.setup.geometry v.block c.args.gear c.args.at) c.args.skipped) c.args.gear) c.loop-disk.invariant.kept
      (λ v s is. is ∙ ap (xor_upto (without (stripe m.setup.geometry v.block c.args.gear c.args.at) c.args.skipped)) (omega arith));
  lost = tt;
}

pub returns-in_err-add_member : goal.returns-in_err-add_member
returns-in_err-add_member g c = record {
  shown = none_done _ c.from_residual.result _ c.from_residual.ensures.1;
  lost = handed (g.C.Stored.loses c.args.core.now c.add_member.new.core) c.from_residual.result _ c.from_residual.ensures.1 (g.met.C.Stored.then_lost _ _ _ _ c.loop-disk.invariant.kept.goes c.in_err-add_member.ensures.lost);
}
