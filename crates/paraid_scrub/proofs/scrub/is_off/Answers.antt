use Rattle.std.proofs.lemmas.Result.{IfOk-weaker}
use Rattle.std.proofs.Common.{◌≢◌, ◌<◌, ◌∙◌, IsTrue, sym, ap, subst, arith}
use Rattle.std.specs.Prelude.{◌↔◌, ℕ}
use Rattle.paraid_base.specs.Regions.{IsGear, map_count}
use Rattle.paraid_base.specs.Soft.{stripe_count}
use Rattle.paraid_base.specs.States.{phase_to}
use Rattle.paraid_base.specs.Sums.{xor_upto}
use Rattle.paraid_base.specs.Xor.{zero_block}
use Rattle.paraid_record.specs.declared.meta.Meta.{Meta}
use Rattle.paraid_record.specs.Range.{IsInRange}
use Rattle.paraid_image.specs.Out.{named_out}
use Rattle.paraid_image.specs.Value.{stripe, value}
use Rattle.paraid_scrub.specs.Counts.{IsFillRight, IsOff, total}
use Rattle.paraid_scrub.specs.declared.kind.Kind.{Kind}
use Rattle.paraid_scrub.proofs.KindLemmas.{gear_readable, gear_region, shift_readable, shift_stripe, whole_below, whole_none}
use Rattle.paraid_scrub.proofs.LookedLemmas.{keeps_so}
use Rattle.paraid_scrub.proofs.scrub.is_off.Goals as goal

pub is_row_off-requires : goal.is_row_off-requires
is_row_off-requires g c = record {
  usable = c.requires.usable;
  row =
      let m = g.C.Stored.meta c.args.core.now in
      (whole_none (named_out m.out) m.setup.geometry.rows c.args.at (subst (λ (k : Kind). c.args.at < total m (named_out m.out) k) c.in-Row.is c.requires.at)).1;
}

pub returns-in-Row : goal.returns-in-Row
returns-in-Row g c = record {
  shown =
      IfOk-weaker c.is_row_off.result _ _ (λ off kept. keeps_so (λ v. IsTrue off ↔ IsOff v c.args.kind c.args.at) kept
      (λ v s is.
      let e = (g.met.C.Stored.agrees c.args.core.now v s).0 in
      subst (λ (k : Kind). IsTrue off ↔ IsOff v k c.args.at) (sym c.in-Row.is)
      (subst (λ (z : Meta). IsTrue off ↔ (xor_upto (value v c.args.at) z.setup.geometry.disks ≢ zero_block)) (sym e) is))) c.is_row_off.ensures.shown;
  lost = c.is_row_off.ensures.lost;
}

pub is_stripe_off-requires : goal.is_stripe_off-requires
is_stripe_off-requires g c = record {
  usable = c.requires.usable;
  gear = subst (λ (z : Meta). IsGear z.setup.geometry c.meta-meta.result.gear) c.meta-meta.ensures.value c.meta-meta.ensures.in_range.gear;
  region =
      let m = g.C.Stored.meta c.args.core.now in
      let part = whole_below (named_out m.out) m.gear (stripe_count m.setup.geometry.disks m.setup.geometry.rows m.gear) c.args.at (subst (λ (k : Kind). c.args.at < total m (named_out m.out) k) c.in-Stripe.is c.requires.at) in
      gear_region m.setup.geometry c.meta-meta.result.gear c.args.at (subst (λ (z : Meta). IsGear z.setup.geometry c.meta-meta.result.gear) c.meta-meta.ensures.value c.meta-meta.ensures.in_range.gear)
      (subst (λ (z : Meta). c.args.at < stripe_count m.setup.geometry.disks m.setup.geometry.rows z.gear) (sym c.meta-meta.ensures.value) part.1);
  at =
      let m = g.C.Stored.meta c.args.core.now in
      let part = whole_below (named_out m.out) m.gear (stripe_count m.setup.geometry.disks m.setup.geometry.rows m.gear) c.args.at (subst (λ (k : Kind). c.args.at < total m (named_out m.out) k) c.in-Stripe.is c.requires.at) in
      subst (λ (z : Meta). c.args.at < stripe_count m.setup.geometry.disks m.setup.geometry.rows z.gear) (sym c.meta-meta.ensures.value) part.1;
  readable = λ d low.
      let m = g.C.Stored.meta c.args.core.now in
      let part = whole_below (named_out m.out) m.gear (stripe_count m.setup.geometry.disks m.setup.geometry.rows m.gear) c.args.at (subst (λ (k : Kind). c.args.at < total m (named_out m.out) k) c.in-Stripe.is c.requires.at) in
      gear_readable m m.gear (omega arith) part.0 d (subst (λ (z : Meta). d < z.gear) c.meta-meta.ensures.value low);
}

pub returns-in-Stripe : goal.returns-in-Stripe
returns-in-Stripe g c = record {
  shown =
      let m = g.C.Stored.meta c.args.core.now in
      IfOk-weaker c.is_stripe_off.result _ _ (λ off kept. keeps_so (λ v. IsTrue off ↔ IsOff v c.args.kind c.args.at) kept
      (λ v s is.
      let e = (g.met.C.Stored.agrees c.args.core.now v s).0 in
      subst (λ (k : Kind). IsTrue off ↔ IsOff v k c.args.at) (sym c.in-Stripe.is)
      (subst (λ (z : Meta). IsTrue off ↔ (xor_upto (stripe z.setup.geometry v.block z.gear c.args.at) z.gear ≢ zero_block)) (sym e)
      (subst (λ (z : Meta). IsTrue off ↔ (xor_upto (stripe m.setup.geometry v.block z.gear c.args.at) z.gear ≢ zero_block)) c.meta-meta.ensures.value is)))) c.is_stripe_off.ensures.shown;
  lost = c.is_stripe_off.ensures.lost;
}

pub is_fill_off-requires : goal.is_fill_off-requires
is_fill_off-requires g c = record {
  usable = c.requires.usable;
  gear =
      let m = g.C.Stored.meta c.args.core.now in
      let to = c.to.ensures ∙ ap (λ (z : Meta). phase_to z.phase) c.meta-meta.ensures.value in
      let low = (whole_none (named_out m.out) m.fill c.args.at (subst (λ (k : Kind). c.args.at < total m (named_out m.out) k) c.in-Fill.is c.requires.at)).1 in
      subst (IsGear m.setup.geometry) (sym to) (shift_stripe m (subst IsInRange c.meta-meta.ensures.value c.meta-meta.ensures.in_range) c.args.at low).0;
  region =
      let m = g.C.Stored.meta c.args.core.now in
      let to = c.to.ensures ∙ ap (λ (z : Meta). phase_to z.phase) c.meta-meta.ensures.value in
      let low = (whole_none (named_out m.out) m.fill c.args.at (subst (λ (k : Kind). c.args.at < total m (named_out m.out) k) c.in-Fill.is c.requires.at)).1 in
      let shift = shift_stripe m (subst IsInRange c.meta-meta.ensures.value c.meta-meta.ensures.in_range) c.args.at low in
      subst (λ (n : ℕ). n < m.setup.geometry.disks) (sym to) (gear_region m.setup.geometry (phase_to m.phase) c.args.at shift.0 shift.1);
  at =
      let m = g.C.Stored.meta c.args.core.now in
      let to = c.to.ensures ∙ ap (λ (z : Meta). phase_to z.phase) c.meta-meta.ensures.value in
      let low = (whole_none (named_out m.out) m.fill c.args.at (subst (λ (k : Kind). c.args.at < total m (named_out m.out) k) c.in-Fill.is c.requires.at)).1 in
      subst (λ (n : ℕ). c.args.at < stripe_count m.setup.geometry.disks m.setup.geometry.rows n) (sym to) (shift_stripe m (subst IsInRange c.meta-meta.ensures.value c.meta-meta.ensures.in_range) c.args.at low).1;
  readable = λ d low.
      let m = g.C.Stored.meta c.args.core.now in
      let to = c.to.ensures ∙ ap (λ (z : Meta). phase_to z.phase) c.meta-meta.ensures.value in
      let none = (whole_none (named_out m.out) m.fill c.args.at (subst (λ (k : Kind). c.args.at < total m (named_out m.out) k) c.in-Fill.is c.requires.at)).0 in
      shift_readable m (subst IsInRange c.meta-meta.ensures.value c.meta-meta.ensures.in_range) none d (subst (λ (n : ℕ). d < n) to low);
}

pub returns-in-Fill : goal.returns-in-Fill
returns-in-Fill g c = record {
  shown =
      let to = c.to.ensures ∙ ap (λ (z : Meta). phase_to z.phase) c.meta-meta.ensures.value in
      IfOk-weaker c.is_fill_off.result _ _ (λ off kept. keeps_so (λ v. IsTrue off ↔ IsOff v c.args.kind c.args.at) kept
      (λ v s is.
      let e = (g.met.C.Stored.agrees c.args.core.now v s).0 in
      subst (λ (k : Kind). IsTrue off ↔ IsOff v k c.args.at) (sym c.in-Fill.is)
      (subst (λ (n : ℕ). IsTrue off ↔ (IsFillRight v n c.args.at → ⊥)) (to ∙ ap (λ (z : Meta). phase_to z.phase) (sym e)) is))) c.is_fill_off.ensures.shown;
  lost = c.is_fill_off.ensures.lost;
}

pub is_rebuilt_off-requires : goal.is_rebuilt_off-requires
is_rebuilt_off-requires g c = record {
  usable = c.requires.usable;
  at =
      let m = g.C.Stored.meta c.args.core.now in
      subst (λ (k : Kind). c.args.at < total m (named_out m.out) k) c.in-Unit.is c.requires.at;
}

pub returns-in-Unit : goal.returns-in-Unit
returns-in-Unit g c = record {
  shown =
      IfOk-weaker c.is_rebuilt_off.result _ _ (λ off kept. keeps_so (λ v. IsTrue off ↔ IsOff v c.args.kind c.args.at) kept
      (λ v s is. subst (λ (k : Kind). IsTrue off ↔ IsOff v k c.args.at) (sym c.in-Unit.is) is)) c.is_rebuilt_off.ensures.shown;
  lost = c.is_rebuilt_off.ensures.lost;
}

pub is_map_off-requires : goal.is_map_off-requires
is_map_off-requires g c = record {
  usable = c.requires.usable;
  disk = omega arith;
  readable =
      let m = g.C.Stored.meta c.args.core.now in
      let part = whole_below (named_out m.out) 2 (map_count m.setup.geometry) c.args.at (subst (λ (k : Kind). c.args.at < total m (named_out m.out) k) c.in-Mirror.is c.requires.at) in
      let range : IsInRange m = subst IsInRange c.meta-meta.ensures.value c.meta-meta.ensures.in_range in
      let low = m.setup.geometry.gears_low m.gear range.gear in
      gear_readable m 2 (omega (arith, low)) part.0 0 (omega arith);
  other =
      let m = g.C.Stored.meta c.args.core.now in
      let part = whole_below (named_out m.out) 2 (map_count m.setup.geometry) c.args.at (subst (λ (k : Kind). c.args.at < total m (named_out m.out) k) c.in-Mirror.is c.requires.at) in
      let range : IsInRange m = subst IsInRange c.meta-meta.ensures.value c.meta-meta.ensures.in_range in
      let low = m.setup.geometry.gears_low m.gear range.gear in
      gear_readable m 2 (omega (arith, low)) part.0 1 (omega arith);
  at =
      let m = g.C.Stored.meta c.args.core.now in
      (whole_below (named_out m.out) 2 (map_count m.setup.geometry) c.args.at (subst (λ (k : Kind). c.args.at < total m (named_out m.out) k) c.in-Mirror.is c.requires.at)).1;
}

pub returns-in-Mirror : goal.returns-in-Mirror
returns-in-Mirror g c = record {
  shown =
      IfOk-weaker c.is_map_off.result _ _ (λ off kept. keeps_so (λ v. IsTrue off ↔ IsOff v c.args.kind c.args.at) kept
      (λ v s is. subst (λ (k : Kind). IsTrue off ↔ IsOff v k c.args.at) (sym c.in-Mirror.is) is)) c.is_map_off.ensures.shown;
  lost = c.is_map_off.ensures.lost;
}
