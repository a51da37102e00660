use Rattle.std.specs.Prelude.{◌+◌}
use Rattle.std.proofs.Common.{◌<◌, ◌∙◌, ap, subst, sym}
use Rattle.paraid_image.specs.Out.{named_out}
use Rattle.paraid_record.specs.declared.meta.Meta.{Meta}
use Rattle.paraid_txn.specs.Losses.{OnlyLosesSlots}
use Rattle.paraid_txn.specs.Stores.{store_rack}
use Rattle.paraid_core.proofs.AfterLemmas.{handed}
use Rattle.paraid_upkeep.proofs.ResultLemmas.{none_done}
use Rattle.paraid_event.proofs.CoreServingLemmas.{copies_kept}
use Rattle.paraid_upkeep.proofs.OutLemmas.{marked_taken, gone_marked, known_gone, two_taken}
use Rattle.paraid_upkeep.proofs.ServiceLemmas.{large_marked, service_then, unsynced_marked}
use Rattle.paraid_upkeep.proofs.ToldLemmas.{extends_core, extends_store}
use Rattle.paraid_upkeep.proofs.TurnLemmas.{can_mark, commits_taken, taken_lost}
use Rattle.paraid_upkeep.proofs.FitsLemmas.{fits_lost}
use Rattle.paraid_upkeep.proofs.failing.mark_gone.Goals as goal
use Rattle.paraid_base.specs.Log.{epoch_limit}

pub mark_out-requires : goal.mark_out-requires
mark_out-requires g c = record {
  ready = c.requires.service.ready;
  still = c.requires.service.serves.stays;
  disk = c.requires.disk;
  alone = c.requires.alone;
}

pub commit-requires : goal.commit-requires
commit-requires g c =
    let marks = c.mark_out.ensures in
    record {
      ready = marks.marks.ready;
      committable = record {
        epoch = subst (λ (m : Meta). m.epoch < epoch_limit) (sym marks.meta) c.requires.epoch;
        copies_synced = copies_kept c.args.core.now c.mark_out.new.self (ap (λ (m : Meta). m.setup) marks.meta) marks.marks.staged.copied c.requires.service.copies_synced;
      };
    }

pub returns-in_err-commit : goal.returns-in_err-commit
returns-in_err-commit g c =
    let a = c.args.core.now in
    let b = c.mark_out.new.self in
    let new = c.commit.new.self in
    let marks = c.mark_out.ensures in
    record {
      stays = none_done _ c.from_residual.result _ c.from_residual.ensures.1;
      taken = none_done _ c.from_residual.result _ c.from_residual.ensures.1;
      known = none_done _ c.from_residual.result _ c.from_residual.ensures.1;
      table = c.commit.ensures.cells.table ∙ marks.marks.staged.table;
      slots = c.commit.ensures.stays.losses.slots ∙ ap (λ (z : _). g.R.Rack.slot_count (store_rack z)) marks.marks.store;
      marks = can_mark g.R.Rack.slot_count g.R.Rack.slot g.R.Rack.told g.met.R.Rack.agrees a b c.args.disk marks.marks.store marks.meta marks.marks.staged.table marks.marks.staged.batch marks.marks.staged.copied marks.stands;
      commits = none_done _ c.from_residual.result _ c.from_residual.ensures.1;
      loses =
          handed _ c.from_residual.result _ c.from_residual.ensures.1
          (taken_lost g.R.Rack.slot_count g.R.Rack.slot g.R.Rack.told g.met.R.Rack.agrees a b c.args.disk marks.marks.store marks.meta marks.marks.staged.table marks.marks.staged.batch marks.marks.staged.copied
          new c.commit.ensures.brings.calls c.commit.ensures.brings.whole c.commit.ensures.held.moments (marks.serves c.requires.service.serves) _ c.in_err-commit.ensures.stays.losses.tells);
      spared = subst (λ (z : _). OnlyLosesSlots (g.R.Rack.slot (store_rack z)) (g.R.Rack.slot (store_rack new.store))) marks.marks.store c.commit.ensures.stays.losses.spared;
      two = handed _ c.from_residual.result _ c.from_residual.ensures.1 (two_taken g.R.Rack.slot a b new c.args.disk _ marks.marks.store (ap (λ (m : Meta). named_out m.out) marks.meta) c.in_err-commit.ensures.stays.losses.two);
      told = extends_store g.R.Rack.told a b new marks.marks.store (extends_core g.R.Rack.told b new _ c.commit.ensures.brings.calls);
    }

pub returns : goal.returns
returns g c =
    let q = c.requires.service in
    let a = c.args.core.now in
    let b = c.mark_out.new.self in
    let new = c.commit.new.self in
    let marks = c.mark_out.ensures in
    let done = c.in_ok-commit.ensures in
    let spared = subst (λ (z : _). OnlyLosesSlots (g.R.Rack.slot (store_rack z)) (g.R.Rack.slot (store_rack new.store))) marks.marks.store c.commit.ensures.stays.losses.spared in
    let gone = gone_marked (record b.meta { epoch = b.meta.epoch + 1 }) new.meta c.args.disk (ap (λ (m : Meta). m.out) marks.meta) done.meta.meta in
    record {
      stays = record {
        service =
            service_then g.R.Rack.slot_count g.R.Rack.slot b new
            (record {
              ready = marks.marks.ready;
              serves = marks.serves q.serves;
              draft = marks.marks.staged.draft ∙ q.draft;
              copies_synced = copies_kept a b (ap (λ (m : Meta). m.setup) marks.meta) marks.marks.staged.copied q.copies_synced;
              large = large_marked g.R.Rack.slot a b marks.marks.store (ap (λ (m : Meta). m.setup) marks.meta) c.args.disk (ap (λ (m : Meta). named_out m.out) marks.meta) c.requires.alone q.large;
            })
            done.stays.losses.marks done.stays.setup done.stays.ready (done.serves (marks.serves q.serves)) (done.cells.draft ∙ marks.marks.staged.draft ∙ q.draft) done.stays.copied;
        setup = done.stays.setup ∙ ap (λ (m : Meta). m.setup) marks.meta;
        writes = done.cells.writes ∙ ap (λ (m : Meta). m.writes) marks.meta;
        unsynced = λ before. done.unsynced (unsynced_marked g.R.Rack.slot a b c.args.disk marks.marks.store marks.meta marks.marks.staged.copied c.requires.alone before);
        known = λ before. known_gone g.R.Rack.slot new c.args.disk gone done.meta.absent;
        fits = fits_lost (g.R.Rack.slot (store_rack a.store)) (g.R.Rack.slot (store_rack new.store)) a.meta new.meta c.args.disk new.meta.epoch spared (marked_taken a.meta b.meta new.meta c.args.disk (b.meta.epoch + 1) marks.meta done.meta.meta) c.requires.alone done.stays.ready.absent;
      };
      taken = record {
        meta = marked_taken a.meta b.meta new.meta c.args.disk (b.meta.epoch + 1) marks.meta done.meta.meta;
        gone = gone;
        epoch = done.meta.epoch ∙ ap (λ (m : Meta). m.epoch + 1) marks.meta;
      };
      known = known_gone g.R.Rack.slot new c.args.disk gone done.meta.absent;
      table = c.commit.ensures.cells.table ∙ marks.marks.staged.table;
      slots = c.commit.ensures.stays.losses.slots ∙ ap (λ (z : _). g.R.Rack.slot_count (store_rack z)) marks.marks.store;
      marks = can_mark g.R.Rack.slot_count g.R.Rack.slot g.R.Rack.told g.met.R.Rack.agrees a b c.args.disk marks.marks.store marks.meta marks.marks.staged.table marks.marks.staged.batch marks.marks.staged.copied marks.stands;
      commits =
          commits_taken g.R.Rack.slot_count g.R.Rack.slot g.R.Rack.told g.met.R.Rack.agrees a b c.args.disk marks.marks.store marks.meta marks.marks.staged.table marks.marks.staged.batch marks.marks.staged.copied
          new c.commit.ensures.brings.calls c.commit.ensures.brings.whole done.held.stands done.stays.losses.marks done.stays.ready done.stays.setup;
      loses = tt;
      spared = subst (λ (z : _). OnlyLosesSlots (g.R.Rack.slot (store_rack z)) (g.R.Rack.slot (store_rack new.store))) marks.marks.store c.commit.ensures.stays.losses.spared;
      two = tt;
      told = extends_store g.R.Rack.told a b new marks.marks.store (extends_core g.R.Rack.told b new _ c.commit.ensures.brings.calls);
    }
