use Rattle.paraid_base.proofs.RegionsLemmas.{hard_place_below}
use Rattle.std.proofs.lemmas.Result.{on_ok_weaker}
use Rattle.std.proofs.Common.{◌≡◌, ◌∙◌, sym, ap, arith, subst, ◌<◌}
use Rattle.paraid_base.specs.Regions.{hard_place_of, disk_size}
use Rattle.paraid_record.specs.declared.meta.Meta.{Meta}
use Rattle.paraid_image.specs.Value.{stored_value}
use Rattle.paraid_view.proofs.ValueLemmas.{near_soft}
use Rattle.paraid_scrub.specs.Looks.IsReadable.{powered}
use Rattle.paraid_scrub.proofs.CellLemmas.{near_stored}
use Rattle.paraid_scrub.proofs.LookedLemmas.{keeps_so}
use Rattle.paraid_scrub.proofs.value.read_near.Goals as goal

pub returns-then-not-is_hard : goal.returns-then-not-is_hard
returns-then-not-is_hard g c = record {
  shown =
      on_ok_weaker c.read_soft.result (λ kept. keeps_so (λ v. c.read_soft.new.into ≡ stored_value v c.args.row c.args.disk) kept
      (λ v s is. is ∙ sym (near_soft v c.args.row c.args.disk (sym (c.is_hard.ensures.value v s) ∙ c.if-not-is_hard.true)))) c.read_soft.ensures.shown;
  lost = c.read_soft.ensures.lost;
}

pub read_soft-requires : goal.read_soft-requires
read_soft-requires g c = record {
  usable = c.requires.usable;
  row = c.requires.row;
  disk = c.requires.disk;
  parked = c.is_hard.ensures.parked c.if-not-is_hard.true;
}

pub read_stored-requires : goal.read_stored-requires
read_stored-requires g c = record {
  usable = c.requires.usable;
  readable = powered (c.is_hard.ensures.powered c.if-not-is_hard.false) c.requires.there;
  past_log = let k = c.hard_place-place.ensures.after_map in omega (arith, k);
  within = subst (λ (z : Meta). c.hard_place-place.result < disk_size z.setup.geometry) c.meta.ensures.value (let fits = hard_place_below c.meta.result.setup.geometry c.args.row (subst (λ (z : Meta). c.args.row < z.setup.geometry.rows) (sym c.meta.ensures.value) c.requires.row) in let is = c.hard_place-place.ensures.value in omega (arith, fits, is));
}

pub returns : goal.returns
returns g c = record {
  shown =
      on_ok_weaker c.read_stored.result (λ kept. keeps_so (λ v. c.read_stored.new.into ≡ stored_value v c.args.row c.args.disk) kept
      (λ v s is.
      let a = g.met.C.Stored.agrees c.args.core.now v s in
      near_stored v (g.C.Stored.meta c.args.core.now) a.0 c.args.row c.args.disk c.hard_place-place.result _ (sym (c.is_hard.ensures.value v s) ∙ c.if-not-is_hard.false)
      (c.hard_place-place.ensures.value ∙ ap (λ (z : Meta). hard_place_of z.setup.geometry c.args.row) c.meta.ensures.value) is)) c.read_stored.ensures.shown;
  lost = c.read_stored.ensures.lost;
}

pub hard_place-place-requires : goal.hard_place-place-requires
hard_place-place-requires g c = subst (λ (z : Meta). c.args.row < z.setup.geometry.rows) (sym c.meta.ensures.value) c.requires.row

pub is_hard-requires : goal.is_hard-requires
is_hard-requires g c = record {
  usable = c.requires.usable;
  row = c.requires.row;
  disk = c.requires.disk;
}
