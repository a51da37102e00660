use Rattle.paraid_core.proofs.AfterLemmas.{handed}
use Rattle.paraid_core.proofs.ErrLemmas.{none_done_if}
use Rattle.paraid_base.specs.Regions.{IsGear, disk_size, soft_place_of}
use Rattle.paraid_base.specs.Soft.{stripe_count}
use Rattle.std.proofs.lemmas.Result.{IfErr-weaker, IfOk-weaker}
use Rattle.std.proofs.Common.{◌≡◌, ◌<◌, ◌∙◌, IsTrue, sym, ap, subst, arith}
use Rattle.std.specs.Prelude.{◌↔◌}
use Rattle.paraid_base.specs.Xor.{xor}
use Rattle.paraid_record.specs.declared.meta.Meta.{Meta}
use Rattle.paraid_image.specs.Value.{stripe}
use Rattle.paraid_scrub.specs.Counts.{IsCopyRight}
use Rattle.paraid_scrub.proofs.LookedLemmas.{keeps_then}
use Rattle.paraid_scrub.proofs.fill.look_at_copy.Goals as goal

pub read_stored-requires : goal.read_stored-requires
read_stored-requires g c = record {
  usable = c.requires.usable;
  readable = c.requires.readable;
  past_log = let k = c.soft_place-place.ensures.after_hard in omega (arith, k);
  within = subst (λ (z : Meta). c.soft_place-place.result < disk_size z.setup.geometry) c.meta.ensures.value c.soft_place-place.ensures.in_size;
}

pub is_copy_off-requires : goal.is_copy_off-requires
is_copy_off-requires g c = record {
  usable = c.in_ok-read_stored.ensures.shown.still;
  gear = subst (λ (z : Meta). IsGear z.setup.geometry c.args.gear) (sym c.in_ok-read_stored.ensures.shown.same) c.requires.gear;
  region = subst (λ (z : Meta). c.args.gear < z.setup.geometry.disks) (sym c.in_ok-read_stored.ensures.shown.same) c.requires.region;
  at =
      subst (λ (z : Meta). c.args.at < stripe_count z.setup.geometry.disks z.setup.geometry.rows c.args.gear) (sym c.in_ok-read_stored.ensures.shown.same) c.requires.at;
  disk = c.requires.disk;
}

pub returns : goal.returns
returns g c = record {
  shown =
      let m = g.C.Stored.meta c.args.core.now in
      let read = c.in_ok-read_stored.ensures.shown in
      IfOk-weaker c.is_copy_off.result _ _ (λ bit kept. keeps_then (λ v. (c.xor_into.new.to ≡ xor c.args.sum.now (stripe m.setup.geometry v.block c.args.gear c.args.at c.args.disk)) × (IsTrue bit ↔ (IsCopyRight v c.args.gear c.args.at c.args.disk → ⊥))) g.met.C.Stored.then g.met.C.Stored.told read kept
      (λ v s is off.
      let stored = is ∙ ap (v.block c.args.disk) (c.soft_place-place.ensures.value ∙ ap (λ (z : Meta). soft_place_of z.setup.geometry c.args.gear c.args.at) c.meta.ensures.value) in
      (c.xor_into.ensures ∙ ap (xor c.args.sum.now) stored, off (stored ∙ ap (λ (z : Meta). stripe z.setup.geometry v.block c.args.gear c.args.at c.args.disk) (sym read.same))))) c.is_copy_off.ensures.shown;
  lost = IfErr-weaker c.is_copy_off.result _ _ (λ e lost. g.met.C.Stored.then_lost _ _ _ e c.in_ok-read_stored.ensures.shown.goes lost) c.is_copy_off.ensures.lost;
}

pub soft_place-place-requires : goal.soft_place-place-requires
soft_place-place-requires g c = record {
  gear = subst (λ (z : Meta). IsGear z.setup.geometry c.args.gear) (sym c.meta.ensures.value) c.requires.gear;
  region = subst (λ (z : Meta). c.args.gear < z.setup.geometry.disks) (sym c.meta.ensures.value) c.requires.region;
  stripe_in = subst (λ (z : Meta). c.args.at < stripe_count z.setup.geometry.disks z.setup.geometry.rows c.args.gear) (sym c.meta.ensures.value) c.requires.at;
}

pub returns-in_err-read_stored : goal.returns-in_err-read_stored
returns-in_err-read_stored g c = record {
  shown = none_done_if _ c.from_residual.result _ c.from_residual.ensures.1;
  lost = handed (g.C.Stored.loses c.args.core.now c.read_stored.new.self) c.from_residual.result _ c.from_residual.ensures.1 c.in_err-read_stored.ensures.lost;
}
