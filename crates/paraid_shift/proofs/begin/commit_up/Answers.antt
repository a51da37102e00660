use Rattle.paraid_event.proofs.CoreServingLemmas.{array_marked, leaves_array_then, marked_version, two_array, turns_lost, chain, chain_held, copies_still, large_then, lowered, none_away, none_known, unsynced_still, copies_kept}
use Rattle.std.specs.Prelude.{◌+◌, Option, length, ◌<◌}
use Rattle.std.proofs.Common.{◌≡◌, subst, ◌∙◌, ap, sym, ℕ}
use Rattle.paraid_rack.specs.Told.{Ran}
use Rattle.paraid_rack.specs.Trail.{Trail, now}
use Rattle.paraid_base.specs.declared.state.Phase.TheVariants.{Up}
use Rattle.paraid_moves.specs.MoveMetas.{meta_after_begin}
use Rattle.paraid_core.specs.Steps.{IsMarkedFrom}
use Rattle.paraid_event.specs.Service.{Service, service_of}
use Rattle.paraid_event.specs.Stands.{ServiceStandsFor}
use Rattle.paraid_event.specs.Steps.{ServesMarked}
use Rattle.paraid_shift.proofs.PowersLemmas.{mark_service}
use Rattle.paraid_shift.proofs.StepsLemmas.{commit_is_marked, commit_stands, mark_stands}
use Rattle.paraid_base.specs.declared.state.Out.TheVariants.{No}
use Rattle.paraid_base.specs.States.{gone_out, named_out}
use Rattle.paraid_txn.specs.Losses.{OnlyLosesSlots}
use Rattle.paraid_core.proofs.ErrLemmas.{none_done}
use Rattle.paraid_record.specs.declared.meta.Meta.{Meta}
use Rattle.paraid_txn.specs.Stores.{named_of, store_rack}
use Rattle.paraid_core.specs.Cores.{CoreStandsFor, IsCoreHeldSinceCommit}
use Rattle.paraid_core.specs.Fills.{Filled}
use Rattle.paraid_shift.proofs.PartLemmas.{spares_failed}
use Rattle.paraid_shift.proofs.LossLemmas.{commit_is_lost, mark_is_lost}
use Rattle.paraid_shift.proofs.OutcomeLemmas.{none_named}
use Rattle.paraid_shift.proofs.begin.commit_up.Goals as goal
use Rattle.paraid_base.specs.Log.{epoch_limit}

pub returns-in_err-commit : goal.returns-in_err-commit
returns-in_err-commit g c =
    let a = c.args.core.now in
    let b = c.begin_up.new.self in
    let new = c.commit.new.self in
    let marks = c.begin_up.ensures in
    let all = c.commit.ensures in
    let from = c.from_residual in
    let away = none_away g.R.Rack.slot b (ap (λ (m : Meta). m.out) marks.meta ∙ c.requires.can.whole) in
    record {
      begun = none_done _ from.result _ from.ensures.1;
      keeps = record {
        table = all.cells.table ∙ marks.marks.staged.table;
        moments = λ h lo.
            chain_held g.R.Rack.slot_count g.R.Rack.told a b (ap (λ (z : _). g.R.Rack.slot_count (store_rack z)) marks.marks.store) (ap (λ (m : Meta). m.setup) marks.meta) (ap named_of marks.marks.store)
            (CoreStandsFor g.R.Rack.slot_count a h lo) (CoreStandsFor g.R.Rack.slot_count b h lo) h lo _ (marks.stands h lo) (all.held_since.moments_since away h lo);
      };
      rack = spares_failed from.result from.ensures.1 (all.stays.losses.slots ∙ ap (λ (z : _). g.R.Rack.slot_count (store_rack z)) marks.marks.store)
          (subst (λ (z : _). OnlyLosesSlots (g.R.Rack.slot (store_rack z)) (g.R.Rack.slot (store_rack new.store))) marks.marks.store all.stays.losses.spared)
          (two_array g.R.Rack.slot_count g.R.Rack.slot a b new
          (array_marked g.R.Rack.slot_count g.R.Rack.slot a b marks.marks.store (ap (λ (m : Meta). m.setup) marks.meta) (ap (λ (m : Meta). m.out) marks.meta) (ap (λ (m : Meta). m.version) marks.meta) (ap (λ (m : Meta). m.writes) marks.meta))
          all.stays.losses.spared.no_fall _ c.in_err-commit.ensures.stays.losses.two)
          (record {
            spins = b.meta.spins;
            raised = marks.raised;
            others = marks.others;
            loses = mark_is_lost g.R.Rack.slot_count g.R.Rack.slot g.R.Rack.told a b new (meta_after_begin a.meta (Up c.args.to) b.meta.spins) _ marks.marks.store marks.meta marks.marks.staged.table marks.marks.staged.batch marks.marks.staged.copied marks.stands
                (commit_is_lost g.R.Rack.slot_count g.R.Rack.slot g.R.Rack.told b new _ all.brings.calls all.brings.whole (all.held_since.moments_since away)
                (λ d is. ap (λ (m : Meta). named_out m.out) marks.meta ∙ c.requires.can.serving.serves.stays d (sym (ap named_of marks.marks.store) ∙ is)) c.in_err-commit.ensures.stays.losses.tells);
          });
    }

pub returns : goal.returns
returns g c =
    let q = c.requires.can.serving in
    let a = c.args.core.now in
    let b = c.begin_up.new.self in
    let new = c.commit.new.self in
    let marks = c.begin_up.ensures in
    let all = c.commit.ensures in
    let done = c.in_ok-commit.ensures in
    let m = meta_after_begin a.meta (Up c.args.to) b.meta.spins in
    let setup = done.stays.setup ∙ ap (λ (m : Meta). m.setup) marks.meta in
    let away = none_away g.R.Rack.slot b (ap (λ (m : Meta). m.out) marks.meta ∙ c.requires.can.whole) in
    let same : g.R.Rack.told (store_rack b.store) ≡ g.R.Rack.told (store_rack a.store) = ap (λ (z : _). g.R.Rack.told (store_rack z)) marks.marks.store in
    let spared = subst (λ (z : _). OnlyLosesSlots (g.R.Rack.slot (store_rack z)) (g.R.Rack.slot (store_rack new.store))) marks.marks.store all.stays.losses.spared in
    let is = subst (λ (z : Meta). IsMarkedFrom (record z { epoch = z.epoch + 1 }) new.meta) marks.meta done.meta.meta in
    let out : b.meta.out ≡ No = ap (λ (m : Meta). m.out) marks.meta ∙ c.requires.can.whole in
    record {
      begun = record {
        rising = record {
          ready = done.stays.ready;
          still = λ d at. none_known b.meta out d (sym done.meta.named ∙ at);
          up = done.stays.ready.spins;
          draft = done.cells.draft ∙ marks.marks.staged.draft ∙ q.draft;
          copies_synced = copies_still g.R.Rack.slot_count g.R.Rack.slot a new q setup (done.stays.copied ∙ marks.marks.staged.copied);
          unsynced = done.unsynced (unsynced_still g.R.Rack.slot_count g.R.Rack.slot a b q (ap (λ (m : Meta). m.setup) marks.meta) (λ d is. ap (λ (m : Meta). gone_out m.out) marks.meta ∙ is) marks.marks.store marks.marks.staged.copied);
          large = large_then (g.R.Rack.slot (store_rack a.store)) (g.R.Rack.slot (store_rack new.store)) a.meta new.meta q.large (turns_lost _ _ spared) setup (λ d is. none_known a.meta c.requires.can.whole d is) done.stays.ready.absent;
          nothing = done.nothing;
        };
        absent = done.meta.absent;
        leaves = leaves_array_then g.R.Rack.slot_count g.R.Rack.slot a b new
            (array_marked g.R.Rack.slot_count g.R.Rack.slot a b marks.marks.store (ap (λ (m : Meta). m.setup) marks.meta) (ap (λ (m : Meta). m.out) marks.meta) (ap (λ (m : Meta). m.version) marks.meta) (ap (λ (m : Meta). m.writes) marks.meta))
            record { slots = all.stays.losses.slots; setup = done.stays.setup; version = marked_version (record b.meta { epoch = b.meta.epoch + 1 }) new.meta done.meta.meta; writes = done.cells.writes; turned = turns_lost _ _ all.stays.losses.spared; down = done.stays.down };
        meta = record { spins = b.meta.spins; is = is; raised = marks.raised; others = marks.others };
        named = done.meta.named ∙ ap named_out out ∙ sym (none_named (named_of a.store) a.meta q.serves.stays c.requires.can.whole);
        opens = record {
          spins = b.meta.spins;
          raised = marks.raised;
          others = marks.others;
          marks = is;
          opens = record {
            stands = λ h lo samples served energy t tells holds.
                subst (λ (j : Service). ServiceStandsFor j h lo (now t)) (mark_service g.R.Rack.slot_count a b m marks.marks.store marks.meta marks.marks.staged.table marks.marks.staged.batch marks.marks.staged.copied samples served energy)
                (mark_stands (IsCoreHeldSinceCommit g.R.Rack.slot_count a h lo) (CoreStandsFor g.R.Rack.slot_count a h lo) (CoreStandsFor g.R.Rack.slot_count b h lo) _ _ same (marks.stands h lo) t (same ∙ tells) holds);
            serves = λ h lo samples served energy.
                subst (λ (z : Option Trail). Ran z (g.R.Rack.told (store_rack new.store)) (ServesMarked (record (service_of g.R.Rack.slot_count a samples served energy) { meta = m }) (service_of g.R.Rack.slot_count new samples served energy) h lo lo)) same
                (subst (λ (j : Service). Ran (g.R.Rack.told (store_rack b.store)) (g.R.Rack.told (store_rack new.store)) (ServesMarked j (service_of g.R.Rack.slot_count new samples served energy) h lo lo))
                (mark_service g.R.Rack.slot_count a b m marks.marks.store marks.meta marks.marks.staged.table marks.marks.staged.batch marks.marks.staged.copied samples served energy)
                (commit_is_marked g.R.Rack.slot_count g.R.Rack.slot g.R.Rack.told b new (g.met.R.Rack.agrees (store_rack b.store)) (g.met.R.Rack.agrees (store_rack new.store)) c.commit.ensures.stays.losses.slots done.stays.setup done.stays.ready done.stays.losses.marks c.commit.ensures.brings.calls c.commit.ensures.brings.whole
                (commit_stands g.R.Rack.slot_count g.R.Rack.slot g.R.Rack.told b new done.nothing (done.held_since.filled_since away)) h lo samples served energy));
          };
        };
        nothing = done.nothing;
        epoch = done.meta.epoch ∙ ap (λ (m : Meta). m.epoch + 1) marks.meta;
        rests = λ h lo.
            lowered g.R.Rack.slot_count a new (IsCoreHeldSinceCommit g.R.Rack.slot_count a h lo) h lo _ _
            (chain g.R.Rack.slot_count g.R.Rack.told a b (ap (λ (z : _). g.R.Rack.slot_count (store_rack z)) marks.marks.store) (ap (λ (m : Meta). m.setup) marks.meta) (ap named_of marks.marks.store)
            (CoreStandsFor g.R.Rack.slot_count a h lo) (CoreStandsFor g.R.Rack.slot_count b h lo) (Filled g.R.Rack.slot_count new h (length h) new.meta.fill) h lo _ (marks.stands h lo) (done.held_since.filled_since away h lo));
      };
      keeps = record {
        table = all.cells.table ∙ marks.marks.staged.table;
        moments = λ h lo.
            chain_held g.R.Rack.slot_count g.R.Rack.told a b (ap (λ (z : _). g.R.Rack.slot_count (store_rack z)) marks.marks.store) (ap (λ (m : Meta). m.setup) marks.meta) (ap named_of marks.marks.store)
            (CoreStandsFor g.R.Rack.slot_count a h lo) (CoreStandsFor g.R.Rack.slot_count b h lo) h lo _ (marks.stands h lo) (all.held_since.moments_since away h lo);
      };
      rack = record {
        slots = all.stays.losses.slots ∙ ap (λ (z : _). g.R.Rack.slot_count (store_rack z)) marks.marks.store;
        spared = spared;
        two = tt;
        loses = tt;
      };
    }

pub begin_up-requires : goal.begin_up-requires
begin_up-requires g c =
    let q = c.requires in
    record {
      ready = q.can.serving.ready;
      whole = q.can.whole;
      steady = q.can.steady;
      next = q.next;
    }

pub commit-requires : goal.commit-requires
commit-requires g c =
    let q = c.requires in
    let marks = c.begin_up.ensures in
    record {
      ready = marks.marks.ready;
      committable = record {
        epoch = subst (λ (e : ℕ). e < epoch_limit) (sym (ap (λ (m : Meta). m.epoch) marks.meta)) q.can.epoch;
        copies_synced = copies_kept c.args.core.now c.begin_up.new.self (ap (λ (m : Meta). m.setup) marks.meta) marks.marks.staged.copied q.can.serving.copies_synced;
      };
    }
