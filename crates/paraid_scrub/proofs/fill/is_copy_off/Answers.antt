use Rattle.paraid_core.proofs.AfterLemmas.{handed}
use Rattle.paraid_core.proofs.ErrLemmas.{none_done_if}
use Rattle.paraid_base.specs.Regions.{IsGear}
use Rattle.paraid_base.specs.Soft.{stripe_count, soft_disk, soft_parity_disk}
use Rattle.paraid_record.specs.declared.meta.Meta.{Meta}
use Rattle.std.proofs.Common.{◌≡◌, ◌≢◌, ◌∙◌, IsTrue, ap, sym, subst, ◌<◌}
use Rattle.std.specs.Prelude.{◌↔◌}
use Rattle.paraid_base.specs.Skips.{index_among, skip}
use Rattle.paraid_base.proofs.SkipsLemmas.{skip-index_among}
use Rattle.paraid_image.specs.Value.{stripe}
use Rattle.paraid_scrub.specs.Counts.{IsCopyRight}
use Rattle.paraid_scrub.proofs.FillLemmas.{copy_off, none_off, pad_right, parity_right}
use Rattle.paraid_scrub.proofs.LookedLemmas.{keeps_none, keeps_so}
use Rattle.paraid_scrub.proofs.fill.is_copy_off.Goals as goal

pub returns-then-disk-parity : goal.returns-then-disk-parity
returns-then-disk-parity g c = record {
  shown =
      keeps_none c.args.core.now (g.met.C.Stored.stays c.args.core.now c.requires.usable) c.requires.usable
      (λ v s stored. none_off (parity_right v (g.C.Stored.meta c.args.core.now) (g.met.C.Stored.agrees c.args.core.now v s).0 c.args.gear c.args.at c.args.disk (c.if-disk-parity.true ∙ c.soft_parity-parity.ensures.value)));
  lost = tt;
}

pub returns-in_default : goal.returns-in_default
returns-in_default g c = record {
  shown =
      let apart : c.args.disk ≢ soft_parity_disk c.args.gear c.args.at = (λ is. c.if-disk-parity.false (is ∙ sym c.soft_parity-parity.ensures.value)) in
      keeps_none c.args.core.now (g.met.C.Stored.stays c.args.core.now c.requires.usable) c.requires.usable
      (λ v s stored. none_off (pad_right v c.meta.result ((g.met.C.Stored.agrees c.args.core.now v s).0 ∙ sym c.meta.ensures.value) c.args.gear c.args.at c.args.disk apart c.index_among.result
      (c.index_among.ensures.value ∙ ap (λ z. index_among z c.args.disk) c.soft_parity-parity.ensures.value) c.in_default.ensures.value));
  lost = tt;
}

pub returns : goal.returns
returns g c = record {
  shown =
      let m = c.meta.result in
      let apart : c.args.disk ≢ soft_parity_disk c.args.gear c.args.at = (λ is. c.if-disk-parity.false (is ∙ sym c.soft_parity-parity.ensures.value)) in
      let index = c.index_among.ensures.value ∙ ap (λ z. index_among z c.args.disk) c.soft_parity-parity.ensures.value in
      let back = c.in-Some.ensures.back in
      let on : soft_disk m.setup.geometry.disks c.args.gear c.in-Some.row c.in-Some.home ≡ c.args.disk = back.2 ∙ ap (skip (soft_parity_disk c.args.gear c.args.at)) index ∙ skip-index_among (soft_parity_disk c.args.gear c.args.at) c.args.disk apart in
      keeps_so (λ v. c.args.stored.now ≡ stripe (g.C.Stored.meta c.args.core.now).setup.geometry v.block c.args.gear c.args.at c.args.disk → (IsTrue c.differs.result ↔ (IsCopyRight v c.args.gear c.args.at c.args.disk → ⊥))) c.in_ok-read_value.ensures.shown
      (λ v s is stored.
      copy_off v m ((g.met.C.Stored.agrees c.args.core.now v s).0 ∙ sym c.meta.ensures.value) c.args.gear c.args.at c.args.disk c.in-Some.row c.in-Some.home c.in-Some.ensures.row_in c.in-Some.ensures.parked c.in-Some.ensures.disk_in back.0 on
      c.args.stored.now c.read_value.new.into is (stored ∙ ap (λ z. stripe z.setup.geometry v.block c.args.gear c.args.at c.args.disk) (sym c.meta.ensures.value)) c.differs.result c.differs.ensures);
  lost = tt;
}

pub soft_parity-parity-requires : goal.soft_parity-parity-requires
soft_parity-parity-requires g c = record {
  gear = subst (λ (z : Meta). IsGear z.setup.geometry c.args.gear) (sym c.meta.ensures.value) c.requires.gear;
  region = subst (λ (z : Meta). c.args.gear < z.setup.geometry.disks) (sym c.meta.ensures.value) c.requires.region;
  stripe_in = subst (λ (z : Meta). c.args.at < stripe_count z.setup.geometry.disks z.setup.geometry.rows c.args.gear) (sym c.meta.ensures.value) c.requires.at;
}

pub read_value-requires : goal.read_value-requires
read_value-requires g c = record {
  usable = c.requires.usable;
  row = subst (λ (z : Meta). c.in-Some.row < z.setup.geometry.rows) c.meta.ensures.value c.in-Some.ensures.row_in;
  disk = subst (λ (z : Meta). c.in-Some.home < z.setup.geometry.disks) c.meta.ensures.value c.in-Some.ensures.disk_in;
}

pub returns-in_err-read_value : goal.returns-in_err-read_value
returns-in_err-read_value g c = record {
  shown = none_done_if _ c.from_residual.result _ c.from_residual.ensures.1;
  lost = handed (g.C.Stored.loses c.args.core.now c.read_value.new.core) c.from_residual.result _ c.from_residual.ensures.1 c.in_err-read_value.ensures.lost;
}
