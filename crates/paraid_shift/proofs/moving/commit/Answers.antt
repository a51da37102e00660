use Rattle.std.proofs.Common.{◌+◌, ◌∙◌}
use Rattle.paraid_shift.proofs.PartLemmas.{spares_failed}
use Rattle.paraid_core.proofs.ErrLemmas.{none_done}
use Rattle.paraid_txn.specs.Stores.{store_rack}
use Rattle.paraid_shift.proofs.MovedLossLemmas.{commit_loses_both, commit_loses_step}
use Rattle.paraid_shift.proofs.MovingLemmas.{core_moves_none}
use Rattle.paraid_event.proofs.CoreServingLemmas.{copies_still, large_then, marked_named, marked_version, turns_lost}
use Rattle.paraid_shift.proofs.StepsLemmas.{commit_is_marked, commit_is_step, commit_stands}
use Rattle.paraid_shift.proofs.moving.commit.Goals as goal

pub commit-requires : goal.commit-requires
commit-requires g c = record {
  ready = c.requires.serving.ready;
  committable = record {
    epoch = c.requires.epoch;
    copies_synced = c.requires.serving.copies_synced;
  };
}

pub returns-in_err-commit : goal.returns-in_err-commit
returns-in_err-commit g c =
    let a = c.args.core.now in
    let b = c.commit.new.self in
    let all = c.commit.ensures in
    record {
      commits = none_done _ c.from_residual.result _ c.from_residual.ensures.1;
      table = all.cells.table;
      rack = spares_failed c.from_residual.result c.from_residual.ensures.1 all.stays.losses.slots all.stays.losses.spared c.in_err-commit.ensures.stays.losses.two
          (record {
            loses = λ absent. commit_loses_step g.R.Rack.slot_count g.R.Rack.told a b _
                (commit_loses_both g.R.Rack.slot_count g.R.Rack.told a b _ c.requires.serving.serves.stays all.brings.calls all.brings.whole (all.held_since.moments_since absent) c.in_err-commit.ensures.stays.losses.tells);
            marked = λ absent. commit_loses_both g.R.Rack.slot_count g.R.Rack.told a b _ c.requires.serving.serves.stays all.brings.calls all.brings.whole (all.held_since.moments_since absent) c.in_err-commit.ensures.stays.losses.tells;
          });
    }

pub returns : goal.returns
returns g c =
    let q = c.requires.serving in
    let a = c.args.core.now in
    let b = c.commit.new.self in
    let all = c.commit.ensures in
    let done = c.in_ok-commit.ensures in
    record {
      commits = record {
        serving = record {
          ready = done.stays.ready;
          serves = done.serves q.serves;
          draft = all.cells.draft ∙ q.draft;
          copies_synced = copies_still g.R.Rack.slot_count g.R.Rack.slot a b q done.stays.setup all.stays.copied;
          unsynced = done.unsynced q.unsynced;
          large = large_then (g.R.Rack.slot (store_rack a.store)) (g.R.Rack.slot (store_rack b.store)) a.meta b.meta q.large (turns_lost _ _ all.stays.losses.spared) done.stays.setup
              (marked_named (record a.meta { epoch = a.meta.epoch + 1 }) b.meta done.meta.meta) done.stays.ready.absent;
        };
        leaves = record { slots = all.stays.losses.slots; setup = done.stays.setup; version = marked_version (record a.meta { epoch = a.meta.epoch + 1 }) b.meta done.meta.meta; writes = done.cells.writes; turned = turns_lost _ _ all.stays.losses.spared; down = done.stays.down };
        nothing = done.nothing;
        absent = done.meta.absent;
        epoch = done.meta.epoch;
        meta = done.meta.meta;
        moves = λ whole. core_moves_none g.R.Rack.slot_count a b (a.meta.epoch + 1) whole done.meta.meta all.cells.table;
        steps = λ absent.
            commit_is_step g.R.Rack.slot_count g.R.Rack.slot g.R.Rack.told a b (g.met.R.Rack.agrees (store_rack a.store)) (g.met.R.Rack.agrees (store_rack b.store)) all.stays.losses.slots done.stays.setup done.stays.ready done.stays.losses.marks all.brings.calls all.brings.whole
            (commit_stands g.R.Rack.slot_count g.R.Rack.slot g.R.Rack.told a b done.nothing (done.held_since.filled_since absent));
        marked = λ absent.
            commit_is_marked g.R.Rack.slot_count g.R.Rack.slot g.R.Rack.told a b (g.met.R.Rack.agrees (store_rack a.store)) (g.met.R.Rack.agrees (store_rack b.store)) all.stays.losses.slots done.stays.setup done.stays.ready done.stays.losses.marks all.brings.calls all.brings.whole
            (commit_stands g.R.Rack.slot_count g.R.Rack.slot g.R.Rack.told a b done.nothing (done.held_since.filled_since absent));
      };
      table = all.cells.table;
      rack = record { slots = all.stays.losses.slots; spared = all.stays.losses.spared; two = tt; loses = tt };
    }
