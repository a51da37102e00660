use Rattle.std.specs.Prelude.{◌≡◌, ◌≢◌, ℕ, ◌<◌, ◌≤◌, true, false, Some}
use Rattle.std.proofs.Common.{inl, arith, below_more, refl, ◌∙◌, rules}
use Rattle.paraid_txn.specs.Losses.{IsSyncedAt}
use Rattle.paraid_image.specs.Neutral.{names_place}
use Rattle.paraid_image.specs.Batches.{names_disk}
use Rattle.paraid_txn.proofs.StageCallsLemmas.{andthen, nothing_ran, sync_in_whole}
use Rattle.paraid_txn.proofs.ReadyLemmas.{targets_stay_ready}
use Rattle.paraid_txn.proofs.DownLemmas.{StaySyncedBut-both, IsSyncedAt-later}
use Rattle.paraid_txn.proofs.CommitPartLemmas.{CommitPart_answer, CommitPart_none, CommitPart_raised, CommitPart_then}
use Rattle.paraid_txn.proofs.StagesLemmas.{sync_in_end}
use Rattle.paraid_txn.proofs.TargetsLemmas.{names_place-no_disk, names_disk-above, names_disk-below}
use Rattle.paraid_txn.proofs.CrashSpecificationLemmas.{crash_after, crash_raised, crash_ran, crash_upto}
use Rattle.paraid_txn.proofs.commit.sync_target_slots.Goals as goal

pub loop-disk-init : goal.loop-disk-init
loop-disk-init g c = record {
  slots = refl;
  ready = c.requires.ready;
  part = CommitPart_none _ _ _ _ tt;
  still_synced = λ d here wet. inl wet;
  synced = λ d lt on not. absurd (omega arith);
  ran = λ j good is same. nothing_ran (sync_in_whole j good 0);
}

pub loop-disk-preserved : goal.loop-disk-preserved
loop-disk-preserved g c = record {
  slots = c.sync_target_slot.ensures.slots ∙ c.loop-disk.invariant.slots;
  ready = targets_stay_ready _ _ _ _ c.sync_target_slot.ensures.part.lasts c.sync_target_slot.ensures.slots c.loop-disk.invariant.ready;
  part = CommitPart_answer tt (CommitPart_then c.loop-disk.invariant.part c.in_ok-sync_target_slot.ensures.part);
  still_synced = StaySyncedBut-both _ _ _ _ (g.R.Rack.slot c.args.rack.now) (g.R.Rack.slot c.loop-disk.rack) (g.R.Rack.slot c.sync_target_slot.new.rack) c.loop-disk.invariant.part.lasts c.sync_target_slot.ensures.part.lasts c.loop-disk.invariant.still_synced c.sync_target_slot.ensures.still_synced;
  synced = below_more (λ d. names_disk c.args.batch.now d ≡ true → c.args.skip ≢ Some d → IsSyncedAt (g.R.Rack.slot c.sync_target_slot.new.rack) d) c.loop-disk.disk
      (λ d lt on not. IsSyncedAt-later _ _ _ _ d c.sync_target_slot.ensures.part.lasts c.sync_target_slot.ensures.still_synced (c.loop-disk.invariant.synced d lt on not))
      c.sync_target_slot.ensures.synced;
  ran = λ j good is same. andthen (c.loop-disk.invariant.ran j good is same) (c.in_ok-sync_target_slot.ensures.crash j good is same).done;
}

pub returns-in_err-sync_target_slot : goal.returns-in_err-sync_target_slot
returns-in_err-sync_target_slot g c = record {
  slots = search rules;
  part = CommitPart_raised _ c.from_residual.ensures.1 (CommitPart_then c.loop-disk.invariant.part c.in_err-sync_target_slot.ensures.part);
  still_synced = search rules;
  synced = search rules;
  crash = λ j good is same.
      crash_raised _ c.from_residual.ensures.1
      (crash_after (c.loop-disk.invariant.ran j good is same) (c.in_err-sync_target_slot.ensures.crash j good is same));
}

pub returns : goal.returns
returns g c = record {
  slots = search rules;
  part = CommitPart_answer tt c.loop-disk.invariant.part;
  still_synced = search rules;
  synced = λ d on not.
      let below : d < c.args.disks = names_disk-below c.args.batch.now c.args.disks d c.requires.below on in
      c.loop-disk.invariant.synced d (omega arith) on not;
  crash = λ j good is same.
      let above : (d p : ℕ) → c.loop-disk.disk ≤ d → names_place j.batch d p ≡ false = λ d p le.
      rw same (names_place-no_disk c.args.batch.now d p (names_disk-above c.args.batch.now c.args.disks d c.requires.below (omega arith))) in
      crash_upto (λ s a. sync_in_end j good c.loop-disk.disk s above a) (crash_ran (sync_in_whole j good c.loop-disk.disk) (c.loop-disk.invariant.ran j good is same));
}
