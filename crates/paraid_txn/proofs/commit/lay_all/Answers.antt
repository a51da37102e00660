use Rattle.std.proofs.Common.{◌∙◌, subst, ℕ, ◌≤◌, sym, ap, inr}
use Rattle.paraid_txn.proofs.SyncedPartLemmas.{SyncedPart_failed}
use Rattle.std.specs.Prelude.{◌≡◌, ◌≢◌, length, true, Some}
use Rattle.paraid_image.specs.Batches.{names_disk}
use Rattle.paraid_txn.proofs.DownLemmas.{StaySyncedBut-synced}
use Rattle.paraid_txn.proofs.ReadyLemmas.{targets_stay_ready}
use Rattle.paraid_txn.proofs.StagesLemmas.{lay_end}
use Rattle.paraid_txn.proofs.CommitPartLemmas.{CommitPart_then}
use Rattle.paraid_txn.proofs.CrashSpecificationLemmas.{crash_from, crash_raised, crash_then, on_ok_then}
use Rattle.paraid_txn.proofs.commit.lay_all.Goals as goal

pub sync_target_slots-requires : goal.sync_target_slots-requires
sync_target_slots-requires g c = record {
  exists = subst (λ (n : ℕ). c.args.disks ≤ n) (sym c.lay.ensures.slots) c.requires.exists;
  ready = targets_stay_ready _ _ _ _ c.lay.ensures.part.lasts c.lay.ensures.slots c.requires.ready;
  below = c.requires.below;
}

pub returns-in_err-lay : goal.returns-in_err-lay
returns-in_err-lay g c = record {
  leaves = SyncedPart_failed _ c.from_residual.ensures.1 c.lay.ensures.slots c.in_err-lay.ensures.part;
  crash = λ j good is same. crash_raised _ c.from_residual.ensures.1 (c.in_err-lay.ensures.crash j good is same);
}

pub returns : goal.returns
returns g c = record {
  leaves = record {
    slots = c.sync_target_slots.ensures.slots ∙ c.lay.ensures.slots;
    part = CommitPart_then c.in_ok-lay.ensures.part c.sync_target_slots.ensures.part;
    still_synced = on_ok_then c.sync_target_slots.result (λ synced.
        StaySyncedBut-synced (λ d. (names_disk c.args.batch.now d ≡ true) × (c.args.skip ≢ Some d)) (λ d. ⊥) _ _ _ _ _ _ c.lay.ensures.part.lasts c.sync_target_slots.ensures.part.lasts
        c.lay.ensures.still_synced c.sync_target_slots.ensures.still_synced (λ d is. inr (synced d is.0 is.1))) c.sync_target_slots.ensures.synced;
  };
  crash = λ j good is same. crash_then (c.in_ok-lay.ensures.crash j good is same) (crash_from (lay_end j good (length c.args.batch.now) (ap length same)) (c.sync_target_slots.ensures.crash j good is same));
}

pub lay-requires : goal.lay-requires
lay-requires g c = record {
  ready = c.requires.ready;
  past_log = c.requires.past_log;
  few = c.requires.few;
}
