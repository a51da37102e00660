use Rattle.std.proofs.Common.{sym, ◌∙◌, ap, subst, ℕ}
use Rattle.paraid_image.specs.Power.{power_by_gear}
use Rattle.paraid_event.specs.Service.{service_of}
use Rattle.paraid_event.proofs.ShiftMarkLemmas.{down_mark, down_powers}
use Rattle.paraid_shift.proofs.StepsLemmas.{commit_is_marked, commit_stands, core_steps_none, marks_committed, marks_wait}
use Rattle.std.specs.Prelude.{length, ◌+◌, ◌<◌}
use Rattle.paraid_base.specs.States.{gone_out}
use Rattle.paraid_record.specs.declared.meta.Meta.{Meta}
use Rattle.paraid_txn.specs.Losses.{OnlyLosesSlots}
use Rattle.paraid_core.specs.Steps.{IsMarkedFrom}
use Rattle.paraid_core.proofs.ErrLemmas.{none_done}
use Rattle.paraid_txn.specs.Stores.{named_of, store_rack}
use Rattle.paraid_core.specs.Cores.{CoreStandsFor}
use Rattle.paraid_core.specs.Fills.{Filled}
use Rattle.paraid_event.proofs.CoreServingLemmas.{array_marked, leaves_array_then, marked_version, two_array, chain, chain_held, copies_still, large_then, none_away, none_known, turns_lost, unsynced_still, copies_kept}
use Rattle.paraid_shift.proofs.PartLemmas.{spares_failed}
use Rattle.paraid_shift.proofs.LossLemmas.{commit_is_lost, marks_lost}
use Rattle.paraid_shift.proofs.FitsLemmas.{fits_begun_down}
use Rattle.paraid_shift.proofs.begin.begin_down.Goals as goal
use Rattle.paraid_base.specs.Log.{epoch_limit}

pub returns-in_err-commit : goal.returns-in_err-commit
returns-in_err-commit g c =
    let a = c.args.core.now in
    let b = c.begin_down.new.self in
    let new = c.commit.new.self in
    let marks = c.begin_down.ensures in
    let all = c.commit.ensures in
    let from = c.from_residual in
    let away = none_away g.R.Rack.slot b (ap (λ (m : Meta). m.out) marks.meta ∙ c.requires.can.whole) in
    record {
      shifted = none_done _ from.result _ from.ensures.1;
      meta = none_done _ from.result _ from.ensures.1;
      keeps = record {
        table = all.cells.table ∙ marks.marks.staged.table;
        moments = λ h lo.
            chain_held g.R.Rack.slot_count g.R.Rack.told a b (ap (λ (z : _). g.R.Rack.slot_count (store_rack z)) marks.marks.store) (ap (λ (m : Meta). m.setup) marks.meta) (ap named_of marks.marks.store)
            (CoreStandsFor g.R.Rack.slot_count a h lo) (CoreStandsFor g.R.Rack.slot_count b h lo) h lo _ (marks.stands h lo) (all.held_since.moments_since away h lo);
      };
      steps = none_done _ from.result _ from.ensures.1;
      rack = spares_failed from.result from.ensures.1 (all.stays.losses.slots ∙ ap (λ (z : _). g.R.Rack.slot_count (store_rack z)) marks.marks.store)
          (subst (λ (z : _). OnlyLosesSlots (g.R.Rack.slot (store_rack z)) (g.R.Rack.slot (store_rack new.store))) marks.marks.store all.stays.losses.spared)
          (two_array g.R.Rack.slot_count g.R.Rack.slot a b new
          (array_marked g.R.Rack.slot_count g.R.Rack.slot a b marks.marks.store (ap (λ (m : Meta). m.setup) marks.meta) (ap (λ (m : Meta). m.out) marks.meta) (ap (λ (m : Meta). m.version) marks.meta) (ap (λ (m : Meta). m.writes) marks.meta))
          all.stays.losses.spared.no_fall _ c.in_err-commit.ensures.stays.losses.two)
          (marks_lost g.R.Rack.slot_count g.R.Rack.slot g.R.Rack.told a b new a.meta 0 _
          (marks_wait g.R.Rack.slot_count g.R.Rack.slot g.R.Rack.told a a b 0 (core_steps_none g.R.Rack.slot_count g.R.Rack.slot g.R.Rack.told a) marks.marks.store
          (λ samples served energy. down_mark (service_of g.R.Rack.slot_count a samples served energy) (service_of g.R.Rack.slot_count b samples served energy) (ap (λ (z : _). g.R.Rack.slot_count (store_rack z)) marks.marks.store) (ap named_of marks.marks.store) c.args.to c.requires.can.whole marks.meta)
          marks.stands)
          (commit_is_lost g.R.Rack.slot_count g.R.Rack.slot g.R.Rack.told b new _ all.brings.calls all.brings.whole (all.held_since.moments_since away) marks.serves.stays c.in_err-commit.ensures.stays.losses.tells));
      rests = none_done _ from.result _ from.ensures.1;
    }

pub returns : goal.returns
returns g c =
    let q = c.requires.can.serving in
    let a = c.args.core.now in
    let b = c.begin_down.new.self in
    let new = c.commit.new.self in
    let marks = c.begin_down.ensures in
    let all = c.commit.ensures in
    let done = c.in_ok-commit.ensures in
    let setup = done.stays.setup ∙ ap (λ (m : Meta). m.setup) marks.meta in
    let away = none_away g.R.Rack.slot b (ap (λ (m : Meta). m.out) marks.meta ∙ c.requires.can.whole) in
    let spared = subst (λ (z : _). OnlyLosesSlots (g.R.Rack.slot (store_rack z)) (g.R.Rack.slot (store_rack new.store))) marks.marks.store all.stays.losses.spared in
    record {
      shifted = record {
        serving = record {
          ready = done.stays.ready;
          serves = done.serves marks.serves;
          draft = done.cells.draft ∙ marks.marks.staged.draft ∙ q.draft;
          copies_synced = copies_still g.R.Rack.slot_count g.R.Rack.slot a new q setup (done.stays.copied ∙ marks.marks.staged.copied);
          unsynced = done.unsynced (unsynced_still g.R.Rack.slot_count g.R.Rack.slot a b q (ap (λ (m : Meta). m.setup) marks.meta) (λ d is. ap (λ (m : Meta). gone_out m.out) marks.meta ∙ is) marks.marks.store marks.marks.staged.copied);
          large = large_then (g.R.Rack.slot (store_rack a.store)) (g.R.Rack.slot (store_rack new.store)) a.meta new.meta q.large (turns_lost _ _ spared) setup (λ d is. none_known a.meta c.requires.can.whole d is) done.stays.ready.absent;
        };
        leaves = leaves_array_then g.R.Rack.slot_count g.R.Rack.slot a b new
            (array_marked g.R.Rack.slot_count g.R.Rack.slot a b marks.marks.store (ap (λ (m : Meta). m.setup) marks.meta) (ap (λ (m : Meta). m.out) marks.meta) (ap (λ (m : Meta). m.version) marks.meta) (ap (λ (m : Meta). m.writes) marks.meta))
            record { slots = all.stays.losses.slots; setup = done.stays.setup; version = marked_version (record b.meta { epoch = b.meta.epoch + 1 }) new.meta done.meta.meta; writes = done.cells.writes; turned = turns_lost _ _ all.stays.losses.spared; down = done.stays.down };
        absent = done.meta.absent;
        fits = fits_begun_down (g.R.Rack.slot (store_rack a.store)) (g.R.Rack.slot (store_rack new.store)) a.meta new.meta c.args.to (a.meta.epoch + 1) a.meta.spins c.requires.can.steady spared
            (subst (λ (z : Meta). IsMarkedFrom (record z { epoch = z.epoch + 1 }) new.meta) marks.meta done.meta.meta) done.stays.ready.absent;
        nothing = done.nothing;
      };
      meta = subst (λ (z : Meta). IsMarkedFrom (record z { epoch = z.epoch + 1 }) new.meta) marks.meta done.meta.meta;
      keeps = record {
        table = all.cells.table ∙ marks.marks.staged.table;
        moments = λ h lo.
            chain_held g.R.Rack.slot_count g.R.Rack.told a b (ap (λ (z : _). g.R.Rack.slot_count (store_rack z)) marks.marks.store) (ap (λ (m : Meta). m.setup) marks.meta) (ap named_of marks.marks.store)
            (CoreStandsFor g.R.Rack.slot_count a h lo) (CoreStandsFor g.R.Rack.slot_count b h lo) h lo _ (marks.stands h lo) (all.held_since.moments_since away h lo);
      };
      steps = marks_committed g.R.Rack.slot_count g.R.Rack.slot g.R.Rack.told a b new a.meta 0
          (marks_wait g.R.Rack.slot_count g.R.Rack.slot g.R.Rack.told a a b 0 (core_steps_none g.R.Rack.slot_count g.R.Rack.slot g.R.Rack.told a) marks.marks.store
          (λ samples served energy. down_mark (service_of g.R.Rack.slot_count a samples served energy) (service_of g.R.Rack.slot_count b samples served energy) (ap (λ (z : _). g.R.Rack.slot_count (store_rack z)) marks.marks.store) (ap named_of marks.marks.store) c.args.to c.requires.can.whole marks.meta)
          marks.stands)
          all.stays.losses.slots done.meta.epoch
          (λ d. down_powers a.meta c.args.to d c.requires.can.steady ∙ sym (ap (λ (m : Meta). power_by_gear m.gear m.phase d) marks.meta))
          (commit_is_marked g.R.Rack.slot_count g.R.Rack.slot g.R.Rack.told b new (g.met.R.Rack.agrees (store_rack b.store)) (g.met.R.Rack.agrees (store_rack new.store)) all.stays.losses.slots done.stays.setup done.stays.ready done.stays.losses.marks all.brings.calls all.brings.whole
          (commit_stands g.R.Rack.slot_count g.R.Rack.slot g.R.Rack.told b new done.nothing (done.held_since.filled_since away)));
      rack = record {
        slots = all.stays.losses.slots ∙ ap (λ (z : _). g.R.Rack.slot_count (store_rack z)) marks.marks.store;
        spared = spared;
        two = tt;
        loses = tt;
      };
      rests = λ h lo.
          chain g.R.Rack.slot_count g.R.Rack.told a b (ap (λ (z : _). g.R.Rack.slot_count (store_rack z)) marks.marks.store) (ap (λ (m : Meta). m.setup) marks.meta) (ap named_of marks.marks.store)
          (CoreStandsFor g.R.Rack.slot_count a h lo) (CoreStandsFor g.R.Rack.slot_count b h lo) (Filled g.R.Rack.slot_count new h (length h) new.meta.fill) h lo _ (marks.stands h lo) (done.held_since.filled_since away h lo);
    }

pub begin_down-requires : goal.begin_down-requires
begin_down-requires g c =
    let q = c.requires in
    record {
      serving = record {
        ready = q.can.serving.ready;
        serves = q.can.serving.serves;
      };
      whole = q.can.whole;
      steady = q.can.steady;
      next = q.next;
      spared = q.spared;
    }

pub commit-requires : goal.commit-requires
commit-requires g c =
    let q = c.requires in
    let marks = c.begin_down.ensures in
    record {
      ready = marks.marks.ready;
      committable = record {
        epoch = subst (λ (e : ℕ). e < epoch_limit) (sym (ap (λ (m : Meta). m.epoch) marks.meta)) q.can.epoch;
        copies_synced = copies_kept c.args.core.now c.begin_down.new.self (ap (λ (m : Meta). m.setup) marks.meta) marks.marks.staged.copied q.can.serving.copies_synced;
      };
    }
