use Rattle.std.proofs.Common.{◌≡◌, ℕ, ◌∙◌, false, refl, sym, ap, subst, rules, arith, ◌<◌}
use Rattle.paraid_dirty.specs.Table.{is_dirty}
use Rattle.paraid_plan.proofs.LayLemmas.{changed_at}
use Rattle.paraid_image.specs.Content.{view_by}
use Rattle.paraid_image.specs.Spot.{View}
use Rattle.paraid_image.specs.Standing.{contents}
use Rattle.paraid_plan.specs.Placed.{ArePlaced}
use Rattle.paraid_plan.specs.Units.{clean_targets}
use Rattle.paraid_plan.proofs.CommitTargetLemmas.{sync_placed}
use Rattle.paraid_rack.specs.Disks.{is_present}
use Rattle.paraid_rack.specs.Trail.{now}
use Rattle.paraid_txn.specs.Stores.{disks_of, epoch_of, named_of, store_rack}
use Rattle.paraid_core.specs.CoreInvariant.{AreSlotsReady}
use Rattle.paraid_core.proofs.AcceptLemmas.{taken_ready}
use Rattle.paraid_core.proofs.CleanLemmas.{cleaned_keeps, drafted, sync_drafted}
use Rattle.paraid_core.proofs.staged.Core.clean.Goals as goal

pub returns : goal.returns
returns g c = record {
  stages = record {
    store = refl;
    meta = refl;
    copied = refl;
    draft = search rules;
    ready =
        let old = c.args.self.now in
        subst (λ (z : ℕ). AreSlotsReady (g.R.Rack.slot_count (store_rack old.store)) (g.R.Rack.slot (store_rack old.store)) (epoch_of old.store) (disks_of old.store) (named_of old.store) old.meta z c.take.new.batch) (sym c.clear.ensures.rows)
        (taken_ready _ _ _ _ _ old.meta _ old.batch c.requires.serving.ready c.requires.serving.serves c.take.new.batch _ c.take.ensures);
    serves = c.requires.serving.serves;
  };
  staged = search rules;
  cleaned = c.clear.ensures.cells c.args.r c.args.d ∙ changed_at (is_dirty c.args.self.now.dirty) c.args.r c.args.d false c.args.r c.args.d refl refl;
  bits = c.clear.ensures.cells;
  stands = λ h lo t tells is k.
      let old = c.args.self.now in
      let m = old.meta in
      let map = c.map_block.new.into in
      let v : View = view_by m (now t).power (contents (now t) old.batch) in
      let draft_is : c.push-3.new.self ≡ clean_targets v c.args.r c.args.d map =
      drafted c.clear-2.new.self c.push.new.self c.push-2.new.self c.push-3.new.self c.args.r c.args.d c.hard_place.result c.args.value.now map m.setup.geometry
      c.clear-2.ensures c.hard_place.ensures.value c.push.ensures c.push-2.ensures c.push-3.ensures
      ∙ sync_drafted v c.args.r c.args.d c.args.value.now map c.requires.whole is in
      cleaned_keeps (g.R.Rack.slot_count (store_rack old.store)) (named_of old.store) m old.dirty c.clear.new.self old.batch c.take.new.batch c.push-3.new.self old.copied h lo (now t) c.requires.serving.ready.in_range
      (λ d l gone. c.requires.serving.ready.absent d l (ap is_present (sym ((g.met.R.Rack.agrees (store_rack old.store) t tells).power d)) ∙ gone)) k c.args.r c.args.d c.requires.row c.requires.disk c.requires.rises c.requires.whole map
      c.clear.ensures.cells c.map_block.ensures draft_is
      (c.take.ensures.laid_same (subst (ArePlaced m) (sym {b = clean_targets v c.args.r c.args.d map} draft_is) (sync_placed v c.args.r c.args.d map c.requires.serving.ready.in_range c.requires.row c.requires.disk c.requires.rises c.requires.whole))) c.take.ensures.grows;
}

pub hard_place-requires : goal.hard_place-requires
hard_place-requires g c = c.requires.row

pub clear-requires : goal.clear-requires
clear-requires g c = record {
  row = subst (λ (n : ℕ). c.args.r < n) (sym c.requires.serving.ready.rows_are) c.requires.row;
  disk = let low = c.requires.disk in let high = c.args.self.now.meta.setup.geometry.disks_high in omega (arith, low, high);
}
