use Rattle.std.proofs.lemmas.Result.{IfOk-weaker}
use Rattle.std.proofs.Common.{◌≡◌, ◌<◌, ◌≤◌, ◌-◌, ◌∙◌, IsTrue, sym, ap, subst, arith}
use Rattle.std.specs.Prelude.{◌↔◌}
use Rattle.paraid_base.specs.Regions.{map_count}
use Rattle.paraid_base.specs.States.{rebuilt_count}
use Rattle.paraid_record.specs.declared.meta.Meta.{Meta}
use Rattle.paraid_record.specs.Range.{IsInRange}
use Rattle.paraid_scrub.specs.Counts.{IsUnitRight}
use Rattle.paraid_scrub.specs.Looks.IsReadable.{fresh}
use Rattle.paraid_scrub.proofs.LookedLemmas.{keeps_so}
use Rattle.paraid_scrub.proofs.UnitLemmas.{back_below, below_of, beside_fresh, fresh_range, map_unit, map_units, row_unit, stripe_unit, stripes_back}
use Rattle.paraid_scrub.proofs.unit.is_unit_off.Goals as goal

pub is_rebuilt_row_off-requires : goal.is_rebuilt_row_off-requires
is_rebuilt_row_off-requires g c = record {
  usable = c.requires.usable;
  row =
      subst (λ (z : Meta). c.args.at < z.setup.geometry.rows) c.meta-meta.ensures.value (subst (λ n. c.args.at < n) c.rows-rows.ensures c.if-at-rows.true);
  disk = (fresh_range (g.C.Stored.meta c.args.core.now) c.args.disk (subst IsInRange c.meta-meta.ensures.value c.meta-meta.ensures.in_range) c.requires.fresh).0;
  readable = fresh (rebuilt_count (g.C.Stored.meta c.args.core.now).out) c.requires.fresh;
}

pub returns-then-at-rows : goal.returns-then-at-rows
returns-then-at-rows g c = record {
  shown =
      let m = g.C.Stored.meta c.args.core.now in
      let low : c.args.at < m.setup.geometry.rows = subst (λ (z : Meta). c.args.at < z.setup.geometry.rows) c.meta-meta.ensures.value (subst (λ n. c.args.at < n) c.rows-rows.ensures c.if-at-rows.true) in
      IfOk-weaker c.is_rebuilt_row_off.result _ _ (λ off kept. keeps_so (λ v. IsTrue off ↔ (IsUnitRight v c.args.disk c.args.at → ⊥)) kept
      (λ v s is. row_unit v m (g.met.C.Stored.agrees c.args.core.now v s).0 c.args.disk c.args.at low off is)) c.is_rebuilt_row_off.ensures.shown;
  lost = c.is_rebuilt_row_off.ensures.lost;
}

pub is_rebuilt_stripe_off-requires : goal.is_rebuilt_stripe_off-requires
is_rebuilt_stripe_off-requires g c = record {
  usable = c.requires.usable;
  below =
      let m = g.C.Stored.meta c.args.core.now in
      let back = c.stripes_of-stripes.ensures ∙ ap (λ (z : Meta). stripes_back z c.args.disk) c.meta-meta.ensures.value in
      below_of m c.args.disk (c.args.at - c.rows-rows.result) (subst (λ n. c.args.at - c.rows-rows.result < n) back c.if-past-stripes.true);
  at =
      let m = g.C.Stored.meta c.args.core.now in
      let back = c.stripes_of-stripes.ensures ∙ ap (λ (z : Meta). stripes_back z c.args.disk) c.meta-meta.ensures.value in
      let few : c.args.at - c.rows-rows.result < stripes_back m c.args.disk = subst (λ n. c.args.at - c.rows-rows.result < n) back c.if-past-stripes.true in
      subst (λ n. c.args.at - c.rows-rows.result < n) (back_below m c.args.disk (below_of m c.args.disk (c.args.at - c.rows-rows.result) few)) few;
  readable = λ d l. beside_fresh (g.C.Stored.meta c.args.core.now) c.args.disk d c.requires.fresh l;
}

pub returns-then-past-stripes : goal.returns-then-past-stripes
returns-then-past-stripes g c = record {
  shown =
      let m = g.C.Stored.meta c.args.core.now in
      let rows : c.rows-rows.result ≡ m.setup.geometry.rows = c.rows-rows.ensures ∙ ap (λ (z : Meta). z.setup.geometry.rows) c.meta-meta.ensures.value in
      let back = c.stripes_of-stripes.ensures ∙ ap (λ (z : Meta). stripes_back z c.args.disk) c.meta-meta.ensures.value in
      let few : c.args.at - c.rows-rows.result < stripes_back m c.args.disk = subst (λ n. c.args.at - c.rows-rows.result < n) back c.if-past-stripes.true in
      IfOk-weaker c.is_rebuilt_stripe_off.result _ _ (λ off kept. keeps_so (λ v. IsTrue off ↔ (IsUnitRight v c.args.disk c.args.at → ⊥)) kept
      (λ v s is. stripe_unit v m (g.met.C.Stored.agrees c.args.core.now v s).0 c.args.disk c.args.at (c.args.at - c.rows-rows.result) (omega (arith, rows)) (ap (λ n. c.args.at - n) rows) few off is)) c.is_rebuilt_stripe_off.ensures.shown;
  lost = c.is_rebuilt_stripe_off.ensures.lost;
}

pub is_map_off-requires : goal.is_map_off-requires
is_map_off-requires g c = record {
  usable = c.requires.usable;
  disk =
      let m = g.C.Stored.meta c.args.core.now in
      let rows : c.rows-rows.result ≡ m.setup.geometry.rows = c.rows-rows.ensures ∙ ap (λ (z : Meta). z.setup.geometry.rows) c.meta-meta.ensures.value in
      let back = c.stripes_of-stripes.ensures ∙ ap (λ (z : Meta). stripes_back z c.args.disk) c.meta-meta.ensures.value in
      (map_units m c.args.disk c.args.at (subst IsInRange c.meta-meta.ensures.value c.meta-meta.ensures.in_range) c.requires.fresh c.requires.at (omega (arith, rows)) (omega (arith, rows, back))).0;
  readable = fresh (rebuilt_count (g.C.Stored.meta c.args.core.now).out) c.requires.fresh;
  other =
      let m = g.C.Stored.meta c.args.core.now in
      let range = subst IsInRange c.meta-meta.ensures.value c.meta-meta.ensures.in_range in
      let low : 3 ≤ m.gear = m.setup.geometry.gears_low m.gear range.gear in
      beside_fresh m c.args.disk (1 - c.args.disk) c.requires.fresh (omega (arith, low));
  at =
      let m = g.C.Stored.meta c.args.core.now in
      let rows : c.rows-rows.result ≡ m.setup.geometry.rows = c.rows-rows.ensures ∙ ap (λ (z : Meta). z.setup.geometry.rows) c.meta-meta.ensures.value in
      let back = c.stripes_of-stripes.ensures ∙ ap (λ (z : Meta). stripes_back z c.args.disk) c.meta-meta.ensures.value in
      let low = (map_units m c.args.disk c.args.at (subst IsInRange c.meta-meta.ensures.value c.meta-meta.ensures.in_range) c.requires.fresh c.requires.at (omega (arith, rows)) (omega (arith, rows, back))).1 in
      subst (λ n. n < map_count m.setup.geometry) (ap (λ n. c.args.at - n - stripes_back m c.args.disk) (sym rows) ∙ ap (λ n. c.args.at - c.rows-rows.result - n) (sym back)) low;
}

pub returns : goal.returns
returns g c = record {
  shown =
      let m = g.C.Stored.meta c.args.core.now in
      let rows : c.rows-rows.result ≡ m.setup.geometry.rows = c.rows-rows.ensures ∙ ap (λ (z : Meta). z.setup.geometry.rows) c.meta-meta.ensures.value in
      let back = c.stripes_of-stripes.ensures ∙ ap (λ (z : Meta). stripes_back z c.args.disk) c.meta-meta.ensures.value in
      let parts = map_units m c.args.disk c.args.at (subst IsInRange c.meta-meta.ensures.value c.meta-meta.ensures.in_range) c.requires.fresh c.requires.at (omega (arith, rows)) (omega (arith, rows, back)) in
      let here = ap (λ n. c.args.at - n - stripes_back m c.args.disk) (sym rows) ∙ ap (λ n. c.args.at - c.rows-rows.result - n) (sym back) in
      IfOk-weaker c.is_map_off.result _ _ (λ off kept. keeps_so (λ v. IsTrue off ↔ (IsUnitRight v c.args.disk c.args.at → ⊥)) kept
      (λ v s is. map_unit v m (g.met.C.Stored.agrees c.args.core.now v s).0 c.args.disk c.args.at (c.args.at - c.rows-rows.result - c.stripes_of-stripes.result) (omega (arith, rows)) (omega (arith, rows, back)) (sym here) parts.0
      (subst (λ n. n < map_count m.setup.geometry) here parts.1) off is)) c.is_map_off.ensures.shown;
  lost = c.is_map_off.ensures.lost;
}
