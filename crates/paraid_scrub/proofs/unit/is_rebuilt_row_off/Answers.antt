use Rattle.paraid_base.proofs.RegionsLemmas.{hard_place_below}
use Rattle.paraid_core.proofs.AfterLemmas.{handed}
use Rattle.paraid_core.proofs.ErrLemmas.{none_done_if}
use Rattle.std.proofs.Common.{◌≡◌, ◌≤◌, ◌<◌, ◌∙◌, IsTrue, false, sym, ap, subst, arith}
use Rattle.std.specs.Prelude.{◌↔◌}
use Rattle.paraid_base.specs.Regions.{hard_place_of, disk_size}
use Rattle.paraid_record.specs.declared.meta.Meta.{Meta}
use Rattle.paraid_image.specs.Value.{value}
use Rattle.paraid_scrub.proofs.LookedLemmas.{keeps_none, keeps_then}
use Rattle.paraid_scrub.proofs.UnitLemmas.{row_alone, row_off}
use Rattle.paraid_scrub.proofs.unit.is_rebuilt_row_off.Goals as goal

pub returns-then-is_copy_alone : goal.returns-then-is_copy_alone
returns-then-is_copy_alone g c = record {
  shown =
      keeps_none c.args.core.now (g.met.C.Stored.stays c.args.core.now c.requires.usable) c.requires.usable
      (λ v s. row_alone v (g.C.Stored.meta c.args.core.now) c.args.disk c.args.row (c.is_copy_alone.ensures.alone c.if-is_copy_alone.true v s));
  lost = tt;
}

pub read_stored-requires : goal.read_stored-requires
read_stored-requires g c = record {
  usable = c.requires.usable;
  readable = c.requires.readable;
  past_log = let k = c.hard_place-place.ensures.after_map in omega (arith, k);
  within = subst (λ (z : Meta). c.hard_place-place.result < disk_size z.setup.geometry) c.meta.ensures.value (let fits = hard_place_below c.meta.result.setup.geometry c.args.row (subst (λ (z : Meta). c.args.row < z.setup.geometry.rows) (sym c.meta.ensures.value) c.requires.row) in let is = c.hard_place-place.ensures.value in omega (arith, fits, is));
}

pub read_value-requires : goal.read_value-requires
read_value-requires g c = record {
  usable = c.in_ok-read_stored.ensures.shown.still;
  row = subst (λ (z : Meta). c.args.row < z.setup.geometry.rows) (sym c.in_ok-read_stored.ensures.shown.same) c.requires.row;
  disk = subst (λ (z : Meta). c.args.disk < z.setup.geometry.disks) (sym c.in_ok-read_stored.ensures.shown.same) c.requires.disk;
}

pub returns : goal.returns
returns g c = record {
  shown =
      let m = g.C.Stored.meta c.args.core.now in
      keeps_then (λ v. IsTrue c.differs.result ↔ (((m.gear ≤ c.args.disk → v.dirty c.args.row c.args.disk ≡ false) → v.block c.args.disk (hard_place_of m.setup.geometry c.args.row) ≡ value v c.args.row c.args.disk) → ⊥))
      g.met.C.Stored.then g.met.C.Stored.told c.in_ok-read_stored.ensures.shown c.in_ok-read_value.ensures.shown
      (λ v s stored read. row_off v m c.args.disk c.args.row c.differs.result _ _ (c.is_copy_alone.ensures.stored c.if-is_copy_alone.false v s)
      (stored ∙ ap (v.block c.args.disk) (c.hard_place-place.ensures.value ∙ ap (λ (z : Meta). hard_place_of z.setup.geometry c.args.row) c.meta.ensures.value)) read c.differs.ensures);
  lost = tt;
}

pub returns-in_err-read_stored : goal.returns-in_err-read_stored
returns-in_err-read_stored g c = record {
  shown = none_done_if _ c.from_residual.result _ c.from_residual.ensures.1;
  lost = handed (g.C.Stored.loses c.args.core.now c.read_stored.new.self) c.from_residual.result _ c.from_residual.ensures.1 c.in_err-read_stored.ensures.lost;
}

pub returns-in_err-read_value : goal.returns-in_err-read_value
returns-in_err-read_value g c = record {
  shown = none_done_if _ c.from_residual-in_err-read_value.result _ c.from_residual-in_err-read_value.ensures.1;
  lost = handed (g.C.Stored.loses c.args.core.now c.read_value.new.core) c.from_residual-in_err-read_value.result _ c.from_residual-in_err-read_value.ensures.1 (g.met.C.Stored.then_lost _ _ _ _ c.in_ok-read_stored.ensures.shown.goes c.in_err-read_value.ensures.lost);
}

pub hard_place-place-requires : goal.hard_place-place-requires
hard_place-place-requires g c = subst (λ (z : Meta). c.args.row < z.setup.geometry.rows) (sym c.meta.ensures.value) c.requires.row
