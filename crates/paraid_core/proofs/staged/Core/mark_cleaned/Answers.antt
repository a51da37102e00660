use Rattle.std.specs.Prelude.{ℕ, ◌/◌}
use Rattle.std.proofs.Common.{◌≡◌, ◌∙◌, sym, ap, subst, arith, rules, refl, ◌<◌}
use Rattle.paraid_image.specs.Content.{view_by}
use Rattle.paraid_image.specs.Spot.{View}
use Rattle.paraid_image.specs.Standing.{contents}
use Rattle.paraid_plan.specs.Placed.{ArePlaced}
use Rattle.paraid_plan.specs.WriteTargets.{map_targets}
use Rattle.paraid_plan.proofs.CommitTargetLemmas.{map_placed}
use Rattle.paraid_rack.specs.Disks.{is_present}
use Rattle.paraid_rack.specs.Trail.{now}
use Rattle.paraid_rack.proofs.TrailsLemmas.{stays}
use Rattle.paraid_txn.specs.Stores.{disks_of, epoch_of, named_of, store_rack}
use Rattle.paraid_core.specs.CellCopies.{CellsCopied, KeepsCellCopies}
use Rattle.paraid_core.specs.CoreInvariant.{AreSlotsReady}
use Rattle.paraid_core.specs.Cores.{IsCoreHeldSinceCommit}
use Rattle.paraid_core.proofs.AcceptLemmas.{taken_ready}
use Rattle.paraid_core.proofs.CallLemmas.{keeps_held}
use Rattle.paraid_core.proofs.CopyCellLemmas.{disk_in}
use Rattle.paraid_core.proofs.MarkCellLemmas.{cells_marked, map_drafted, map_room}
use Rattle.paraid_core.proofs.staged.Core.mark_cleaned.Goals as goal

pub returns : goal.returns
returns g c = record {
  stages = record {
    store = refl;
    meta = refl;
    copied = refl;
    draft = search rules;
    ready =
        let old = c.args.self.now in
        subst (λ (z : ℕ). AreSlotsReady (g.R.Rack.slot_count (store_rack old.store)) (g.R.Rack.slot (store_rack old.store)) (epoch_of old.store) (disks_of old.store) (named_of old.store) old.meta z c.take.new.batch) (sym c.clear.ensures.rows)
        (taken_ready _ _ _ _ _ old.meta _ old.batch c.requires.serving.ready c.requires.serving.serves c.take.new.batch _ c.take.ensures);
    serves = c.requires.serving.serves;
  };
  staged = search rules;
  table = c.clear.ensures.cells;
  marked = λ h lo cells here.
      let old = c.args.self.now in
      let q = c.requires in
      let m = old.meta in
      let slots : ℕ = g.R.Rack.slot_count (store_rack old.store) in
      let map = c.map_block.new.into in
      let draft_is : c.push-2.new.self ≡ map_targets m (c.args.r / 512) map = map_drafted m c.clear-2.new.self c.push.new.self c.push-2.new.self c.args.r map q.whole c.clear-2.ensures c.push.ensures c.push-2.ensures in
      stays (IsCoreHeldSinceCommit g.R.Rack.slot_count old h lo) (CellsCopied g.R.Rack.slot_count old h lo cells) (KeepsCellCopies slots (named_of old.store) m c.clear.new.self c.take.new.batch old.copied h lo cells) (g.R.Rack.told (store_rack old.store))
      (λ s k. keeps_held slots (named_of old.store) m c.clear.new.self c.take.new.batch old.copied h lo s k.keeps)
      (λ t tells k.
      let v : View = view_by m (now t).power (contents (now t) old.batch) in
      cells_marked slots (named_of old.store) m old.dirty c.clear.new.self old.batch c.take.new.batch c.push-2.new.self old.copied h lo cells (now t) q.serving.ready.in_range q.whole
      (λ d l gone. q.serving.ready.absent d l (ap is_present (sym ((g.met.R.Rack.agrees (store_rack old.store) t tells).power d)) ∙ gone)) k c.args.r c.args.d q.row (disk_in m c.args.d q.serving.ready.in_range q.rises) q.rises q.dirty here map
      c.clear.ensures.cells c.map_block.ensures draft_is
      (c.take.ensures.laid_same (subst (ArePlaced m) (sym {b = map_targets m (c.args.r / 512) map} draft_is) (map_placed v q.serving.ready.in_range (c.args.r / 512) map (omega arith)))) c.take.ensures.grows);
}

pub clear-requires : goal.clear-requires
clear-requires g c = record {
  row = subst (λ (n : ℕ). c.args.r < n) (sym c.requires.serving.ready.rows_are) c.requires.row;
  disk = let low = disk_in c.args.self.now.meta c.args.d c.requires.serving.ready.in_range c.requires.rises in let high = c.args.self.now.meta.setup.geometry.disks_high in omega (arith, low, high);
}

pub take-requires : goal.take-requires
take-requires g c = record {
  room = map_room c.args.self.now.meta.setup.geometry c.args.self.now.batch c.clear-2.new.self c.push.new.self c.push-2.new.self c.args.r c.map_block.new.into c.clear-2.ensures c.push.ensures c.push-2.ensures c.requires.room;
  apart = c.requires.serving.ready.apart;
}
