use Rattle.std.proofs.lemmas.Result.{IfOk-weaker}
use Rattle.std.proofs.Common.{◌≢◌, ◌<◌, IsTrue, sym, subst}
use Rattle.std.specs.Prelude.{◌↔◌}
use Rattle.paraid_base.specs.Regions.{IsGear}
use Rattle.paraid_base.specs.Soft.{stripe_count}
use Rattle.paraid_base.specs.Sums.{xor_upto}
use Rattle.paraid_base.specs.Xor.{zero_block}
use Rattle.paraid_record.specs.declared.meta.Meta.{Meta}
use Rattle.paraid_image.specs.Value.{stripe, stripe_rest}
use Rattle.paraid_scrub.proofs.KindLemmas.{gear_region}
use Rattle.paraid_scrub.proofs.LookedLemmas.{keeps_so}
use Rattle.paraid_scrub.proofs.UnitLemmas.{stripe_unit_off}
use Rattle.paraid_scrub.proofs.unit.is_rebuilt_stripe_off.Goals as goal

pub is_stripe_off-requires : goal.is_stripe_off-requires
is_stripe_off-requires g c = record {
  usable = c.requires.usable;
  gear = subst (λ (z : Meta). IsGear z.setup.geometry c.meta-gear.result.gear) c.meta-gear.ensures.value c.meta-gear.ensures.in_range.gear;
  region =
      let m = g.C.Stored.meta c.args.core.now in
      gear_region m.setup.geometry c.meta-gear.result.gear c.args.at (subst (λ (z : Meta). IsGear z.setup.geometry c.meta-gear.result.gear) c.meta-gear.ensures.value c.meta-gear.ensures.in_range.gear)
      (subst (λ (z : Meta). c.args.at < stripe_count m.setup.geometry.disks m.setup.geometry.rows z.gear) (sym c.meta-gear.ensures.value) c.requires.at);
  at =
      let m = g.C.Stored.meta c.args.core.now in
      subst (λ (z : Meta). c.args.at < stripe_count m.setup.geometry.disks m.setup.geometry.rows z.gear) (sym c.meta-gear.ensures.value) c.requires.at;
  readable = λ d l. c.requires.readable d (subst (λ (z : Meta). d < z.gear) c.meta-gear.ensures.value l);
}

pub returns : goal.returns
returns g c = record {
  shown =
      let m = g.C.Stored.meta c.args.core.now in
      IfOk-weaker c.is_stripe_off.result _ _ (λ off kept. keeps_so (λ v. IsTrue off ↔ (stripe m.setup.geometry v.block m.gear c.args.at c.args.disk ≢ stripe_rest m.setup.geometry v.block m.gear c.args.at c.args.disk)) kept
      (λ v s is. stripe_unit_off (stripe m.setup.geometry v.block m.gear c.args.at) c.args.disk m.gear c.requires.below off
      (subst (λ (z : Meta). IsTrue off ↔ (xor_upto (stripe m.setup.geometry v.block z.gear c.args.at) z.gear ≢ zero_block)) c.meta-gear.ensures.value is))) c.is_stripe_off.ensures.shown;
  lost = c.is_stripe_off.ensures.lost;
}
