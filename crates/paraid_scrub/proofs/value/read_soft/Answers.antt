use Rattle.paraid_base.specs.Regions.{IsGear, disk_size}
use Rattle.paraid_base.specs.Soft.{stripe_count}
use Rattle.std.proofs.lemmas.Result.{on_ok_weaker}
use Rattle.std.proofs.Common.{◌≡◌, ◌∙◌, sym, ap, subst, arith, inl, ◌<◌, ◌≤◌}
use Rattle.paraid_base.specs.Sums.{without, xor_upto}
use Rattle.paraid_record.specs.declared.meta.Meta.{Meta}
use Rattle.paraid_image.specs.Out.{named_out}
use Rattle.paraid_image.specs.Value.{soft_value, stripe}
use Rattle.paraid_scrub.specs.Looks.{IsReadable}
use Rattle.paraid_scrub.specs.Looks.IsReadable.{powered}
use Rattle.paraid_scrub.proofs.CellLemmas.{not_out, out_here, out_other, soft_rest, soft_stored}
use Rattle.paraid_scrub.proofs.LookedLemmas.{keeps_so}
use Rattle.paraid_scrub.proofs.value.read_soft.Goals as goal

pub sum_stripe-requires : goal.sum_stripe-requires
sum_stripe-requires g c = record {
  usable = c.requires.usable;
  gear = subst (λ (z : Meta). IsGear z.setup.geometry c.meta-meta.result.gear) c.meta-meta.ensures.value c.meta-meta.ensures.in_range.gear;
  region = let parked = subst (λ (z : Meta). z.gear ≤ c.args.disk) (sym c.meta-meta.ensures.value) c.requires.parked in let low = subst (λ (z : Meta). c.args.disk < z.setup.geometry.disks) (sym c.meta-meta.ensures.value) c.requires.disk in let high : c.meta-meta.result.gear < c.meta-meta.result.setup.geometry.disks = omega (arith, parked, low) in subst (λ (z : Meta). c.meta-meta.result.gear < z.setup.geometry.disks) c.meta-meta.ensures.value high;
  at = subst (λ (z : Meta). c.soft_of-stripe.result.0 < stripe_count z.setup.geometry.disks z.setup.geometry.rows c.meta-meta.result.gear) c.meta-meta.ensures.value c.soft_of-stripe.ensures.stripe_in;
  readable = λ d l ne.
      let lost = out_here (named_out c.meta-meta.result.out) c.soft_of-stripe.result.1 (sym c.names.ensures ∙ c.if-names.true) in
      subst (λ (z : Meta). IsReadable z d) c.meta-meta.ensures.value (powered (inl l) (not_out (named_out c.meta-meta.result.out) c.soft_of-stripe.result.1 d lost ne));
}

pub returns-then-names : goal.returns-then-names
returns-then-names g c = record {
  shown =
      let m = c.meta-meta.result in
      on_ok_weaker c.sum_stripe.result (λ kept. keeps_so (λ v. c.sum_stripe.new.into ≡ soft_value v c.args.row c.args.disk) kept
      (λ v s is.
      let a = g.met.C.Stored.agrees c.args.core.now v s in
      soft_rest v m (a.0 ∙ sym c.meta-meta.ensures.value) (a.1 ∙ ap (λ (z : Meta). named_out z.out) (sym c.meta-meta.ensures.value)) c.args.row c.args.disk c.soft_of-stripe.result.0 c.soft_of-stripe.result.1 _
      c.soft_of-stripe.ensures.stripe c.soft_of-stripe.ensures.disk (sym c.names.ensures ∙ c.if-names.true)
      (is ∙ ap (λ (z : Meta). xor_upto (without (stripe z.setup.geometry v.block m.gear c.soft_of-stripe.result.0) c.soft_of-stripe.result.1) m.gear) (sym c.meta-meta.ensures.value)))) c.sum_stripe.ensures.shown;
  lost = c.sum_stripe.ensures.lost;
}

pub read_stored-requires : goal.read_stored-requires
read_stored-requires g c = record {
  usable = c.requires.usable;
  readable =
      subst (λ (z : Meta). IsReadable z c.soft_of-stripe.result.1) c.meta-meta.ensures.value
      (powered (inl c.soft_of-stripe.ensures.below) (out_other (named_out c.meta-meta.result.out) c.soft_of-stripe.result.1 (sym c.names.ensures ∙ c.if-names.false)));
  past_log = let k = c.soft_place-place.ensures.after_hard in omega (arith, k);
  within = subst (λ (z : Meta). c.soft_place-place.result < disk_size z.setup.geometry) c.meta-meta.ensures.value c.soft_place-place.ensures.in_size;
}

pub returns : goal.returns
returns g c = record {
  shown =
      let m = c.meta-meta.result in
      on_ok_weaker c.read_stored.result (λ kept. keeps_so (λ v. c.read_stored.new.into ≡ soft_value v c.args.row c.args.disk) kept
      (λ v s is.
      let a = g.met.C.Stored.agrees c.args.core.now v s in
      soft_stored v m (a.0 ∙ sym c.meta-meta.ensures.value) (a.1 ∙ ap (λ (z : Meta). named_out z.out) (sym c.meta-meta.ensures.value)) c.args.row c.args.disk c.soft_of-stripe.result.0 c.soft_of-stripe.result.1 c.soft_place-place.result _
      c.soft_of-stripe.ensures.stripe c.soft_of-stripe.ensures.disk (sym c.names.ensures ∙ c.if-names.false) c.soft_place-place.ensures.value is)) c.read_stored.ensures.shown;
  lost = c.read_stored.ensures.lost;
}

pub soft_of-stripe-requires : goal.soft_of-stripe-requires
soft_of-stripe-requires g c = record {
  gear = c.meta-meta.ensures.in_range.gear;
  parked = subst (λ (z : Meta). z.gear ≤ c.args.disk) (sym c.meta-meta.ensures.value) c.requires.parked;
  disk_in = subst (λ (z : Meta). c.args.disk < z.setup.geometry.disks) (sym c.meta-meta.ensures.value) c.requires.disk;
  row_in = subst (λ (z : Meta). c.args.row < z.setup.geometry.rows) (sym c.meta-meta.ensures.value) c.requires.row;
}

pub soft_place-place-requires : goal.soft_place-place-requires
soft_place-place-requires g c = record {
  gear = c.meta-meta.ensures.in_range.gear;
  region = let parked = subst (λ (z : Meta). z.gear ≤ c.args.disk) (sym c.meta-meta.ensures.value) c.requires.parked in let low = subst (λ (z : Meta). c.args.disk < z.setup.geometry.disks) (sym c.meta-meta.ensures.value) c.requires.disk in let high : c.meta-meta.result.gear < c.meta-meta.result.setup.geometry.disks = omega (arith, parked, low) in high;
  stripe_in = c.soft_of-stripe.ensures.stripe_in;
}
