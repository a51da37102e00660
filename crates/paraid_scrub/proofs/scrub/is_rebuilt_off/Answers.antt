use Rattle.std.proofs.lemmas.Result.{IfOk-weaker}
use Rattle.std.proofs.Common.{◌≡◌, ◌∙◌, IsTrue, Some, refl, sym, ap, subst}
use Rattle.std.specs.Prelude.{◌↔◌, ℕ}
use Rattle.paraid_base.specs.declared.state.Out.TheVariants.{No, Fresh}
use Rattle.paraid_base.specs.States.{rebuilt_count}
use Rattle.paraid_record.specs.declared.meta.Meta.{Meta}
use Rattle.paraid_image.specs.Out.{named_out}
use Rattle.paraid_scrub.specs.Counts.{IsOff, IsUnitRight}
use Rattle.paraid_scrub.specs.declared.kind.Kind.TheVariants.{Unit}
use Rattle.paraid_scrub.proofs.FillLemmas.{off_as}
use Rattle.paraid_scrub.proofs.KindLemmas.{unit_none}
use Rattle.paraid_scrub.proofs.LookedLemmas.{keeps_none, keeps_so}
use Rattle.paraid_scrub.proofs.scrub.is_rebuilt_off.Goals as goal

pub is_unit_off-requires : goal.is_unit_off-requires
is_unit_off-requires g c = record {
  usable = c.requires.usable;
  fresh =
      let m = g.C.Stored.meta c.args.core.now in
      let is = ap (λ (z : Meta). z.out) (sym c.meta.ensures.value) ∙ c.in-Fresh.is in
      is ∙ ap (Fresh c.in-Fresh.disk) (sym (ap rebuilt_count is));
  at = c.requires.at;
}

pub returns-in-Fresh : goal.returns-in-Fresh
returns-in-Fresh g c = record {
  shown =
      let m = g.C.Stored.meta c.args.core.now in
      let is = ap (λ (z : Meta). z.out) (sym c.meta.ensures.value) ∙ c.in-Fresh.is in
      IfOk-weaker c.is_unit_off.result _ _ (λ off kept. keeps_so (λ v. IsTrue off ↔ IsOff v Unit c.args.at) kept
      (λ v s fact.
      let out : v.out ≡ Some c.in-Fresh.disk = (g.met.C.Stored.agrees c.args.core.now v s).1 ∙ ap named_out is in
      off_as {P = IsUnitRight v c.in-Fresh.disk c.args.at} {Q = (d : ℕ) → v.out ≡ Some d → IsUnitRight v d c.args.at} off
      (λ p d here. let z : Some c.in-Fresh.disk ≡ Some d = sym out ∙ here in let e : c.in-Fresh.disk ≡ d = cc in subst (λ (x : ℕ). IsUnitRight v x c.args.at) e p)
      (λ q. q c.in-Fresh.disk out) fact)) c.is_unit_off.ensures.shown;
  lost = c.is_unit_off.ensures.lost;
}

pub returns-in-No : goal.returns-in-No
returns-in-No g c = record {
  shown =
      keeps_none c.args.core.now (g.met.C.Stored.stays c.args.core.now c.requires.usable) c.requires.usable
      (λ v s. absurd (unit_none (g.C.Stored.meta c.args.core.now).out No c.args.at (ap (λ (z : Meta). z.out) (sym c.meta.ensures.value) ∙ c.in-No.is) refl c.requires.at));
  lost = tt;
}

pub returns-in-Gone : goal.returns-in-Gone
returns-in-Gone g c = record {
  shown =
      keeps_none c.args.core.now (g.met.C.Stored.stays c.args.core.now c.requires.usable) c.requires.usable
      (λ v s. absurd (unit_none (g.C.Stored.meta c.args.core.now).out _ c.args.at (ap (λ (z : Meta). z.out) (sym c.meta.ensures.value) ∙ c.in-Gone.is) refl c.requires.at));
  lost = tt;
}
