use Rattle.paraid_core.proofs.AfterLemmas.{handed}
use Rattle.paraid_core.proofs.ErrLemmas.{none_done}
use Rattle.paraid_base.specs.Regions.{IsGear, disk_size, soft_place_of}
use Rattle.paraid_base.specs.Soft.{stripe_count}
use Rattle.std.proofs.Common.{◌≡◌, ◌∙◌, ap, arith, subst, ◌<◌, sym}
use Rattle.paraid_base.specs.Sums.{without}
use Rattle.paraid_base.specs.Xor.{xor}
use Rattle.paraid_record.specs.declared.meta.Meta.{Meta}
use Rattle.paraid_image.specs.Value.{stripe}
use Rattle.paraid_scrub.proofs.CellLemmas.{added_none, added_one}
use Rattle.paraid_scrub.proofs.LookedLemmas.{keeps_none, keeps_so}
use Rattle.paraid_scrub.proofs.value.add_member.Goals as goal

pub returns-then-disk-skipped : goal.returns-then-disk-skipped
returns-then-disk-skipped g c = record {
  shown =
      let m = g.C.Stored.meta c.args.core.now in
      keeps_none c.args.core.now (g.met.C.Stored.stays c.args.core.now c.requires.usable) c.requires.usable
      (λ v s. added_none (stripe m.setup.geometry v.block c.args.gear c.args.at) c.args.skipped c.args.disk c.args.sum.now c.if-disk-skipped.true);
  lost = tt;
}

pub returns : goal.returns
returns g c = record {
  shown =
      let m = g.C.Stored.meta c.args.core.now in
      keeps_so (λ v. c.xor_into.new.to ≡ xor c.args.sum.now (without (stripe m.setup.geometry v.block c.args.gear c.args.at) c.args.skipped c.args.disk)) c.in_ok-read_stored.ensures.shown
      (λ v s is. added_one (stripe m.setup.geometry v.block c.args.gear c.args.at) c.args.skipped c.args.disk c.args.sum.now _ _ c.if-disk-skipped.false
      (is ∙ ap (v.block c.args.disk) (c.soft_place-place.ensures.value ∙ ap (λ (z : Meta). soft_place_of z.setup.geometry c.args.gear c.args.at) c.meta.ensures.value)) c.xor_into.ensures);
  lost = tt;
}

pub read_stored-requires : goal.read_stored-requires
read_stored-requires g c = record {
  usable = c.requires.usable;
  readable = c.requires.readable c.if-disk-skipped.false;
  past_log = let k = c.soft_place-place.ensures.after_hard in omega (arith, k);
  within = subst (λ (z : Meta). c.soft_place-place.result < disk_size z.setup.geometry) c.meta.ensures.value c.soft_place-place.ensures.in_size;
}

pub soft_place-place-requires : goal.soft_place-place-requires
soft_place-place-requires g c = record {
  gear = subst (λ (z : Meta). IsGear z.setup.geometry c.args.gear) (sym c.meta.ensures.value) c.requires.gear;
  region = subst (λ (z : Meta). c.args.gear < z.setup.geometry.disks) (sym c.meta.ensures.value) c.requires.region;
  stripe_in = subst (λ (z : Meta). c.args.at < stripe_count z.setup.geometry.disks z.setup.geometry.rows c.args.gear) (sym c.meta.ensures.value) c.requires.at;
}

pub returns-in_err-read_stored : goal.returns-in_err-read_stored
returns-in_err-read_stored g c = record {
  shown = none_done _ c.from_residual.result _ c.from_residual.ensures.1;
  lost = handed (g.C.Stored.loses c.args.core.now c.read_stored.new.self) c.from_residual.result _ c.from_residual.ensures.1 c.in_err-read_stored.ensures.lost;
}
