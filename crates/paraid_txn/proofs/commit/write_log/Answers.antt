use Rattle.std.specs.Prelude.{◌≡◌, ◌≢◌, ℕ, ◌+◌, length, Some}
use Rattle.std.proofs.Common.{◌∙◌, ap, arith, subst, ◌<◌, sym}
use Rattle.paraid_txn.proofs.SyncedPartLemmas.{SyncedPart_failed}
use Rattle.paraid_rack.specs.Told.{Ran, CrashTriple}
use Rattle.paraid_txn.specs.CommitStages.{IsSpelled, Job, LogStage, LogIn, LogMeta, HoldsEarly, job_named}
use Rattle.paraid_txn.proofs.DownLemmas.{CanWrite-later, CanWrite-lower, StaySynced-synced, StaySyncedBut-both, AreCommitCalls-then}
use Rattle.paraid_txn.proofs.StageCallsLemmas.{andthen, ends, log_in_whole, log_list_ran, log_meta_ran, log_meta_whole, log_sync_ran, log_whole}
use Rattle.paraid_txn.proofs.ReadyLemmas.{log_can, log_stays_ready}
use Rattle.paraid_txn.proofs.CommitPartLemmas.{CommitPart_then, logs_sync, logs_write}
use Rattle.paraid_txn.proofs.CrashSpecificationLemmas.{crash_after, crash_failed, crash_raised, crash_ran, crash_then, on_ok}
use Rattle.paraid_txn.proofs.commit.write_log.Given.{Over}
use Rattle.paraid_txn.proofs.commit.write_log.Goals as goal
use Rattle.paraid_txn.proofs.commit.write_log.Goals.{After-put, After-put-2, After-sync_slot}

pub put-requires-2 : goal.put-requires-2
put-requires-2 g c = record {
  exists = subst (λ (n : ℕ). c.args.disk < n) (sym c.put.ensures.slots) c.requires.exists;
  can = λ not.
      CanWrite-lower _ _ 3 99 (omega arith) (CanWrite-later _ _ _ _ _ 99 c.put.ensures.part.lasts (c.requires.log.can c.args.disk c.requires.log_disk not));
}

pub sync_slot-requires : goal.sync_slot-requires
sync_slot-requires g c = record {
  exists = subst (λ (n : ℕ). c.args.disk < n) (sym (c.put_blocks.ensures.slots ∙ c.put-2.ensures.slots ∙ c.put.ensures.slots)) c.requires.exists;
  can = λ not. log_can 0 (log_stays_ready c.put_blocks.ensures.part.lasts (log_stays_ready c.put-2.ensures.part.lasts (log_stays_ready c.put.ensures.part.lasts c.requires.log))) c.requires.log_disk (omega arith) not;
}

pub put_blocks-requires : goal.put_blocks-requires
put_blocks-requires g c = record {
  exists = subst (λ (n : ℕ). c.args.disk < n) (sym (c.put-2.ensures.slots ∙ c.put.ensures.slots)) c.requires.exists;
  log_disk = c.requires.log_disk;
  log = log_stays_ready c.put-2.ensures.part.lasts (log_stays_ready c.put.ensures.part.lasts c.requires.log);
  few = c.requires.few;
}

-- with the meta of the batch written
first : (g : Over) (c : After-put g) (j : Job) → IsSpelled j → job_named j ≡ c.args.skip → j.spelled ≡ c.args.meta.now
    → Ran (g.R.Rack.told c.args.rack.now) (g.R.Rack.told c.put.new.rack) (CrashTriple (HoldsEarly j) (LogStage j c.args.disk) (LogMeta j c.args.disk))
first g c j good is spelled = log_meta_ran j good (g.met.R.Rack.agrees c.args.rack.now) is c.args.disk spelled c.put.ensures.does

-- and the list of its targets
second : (g : Over) (c : After-put-2 g) (j : Job) → IsSpelled j → job_named j ≡ c.args.skip → j.list ≡ c.args.list.now
    → Ran (g.R.Rack.told c.put.new.rack) (g.R.Rack.told c.put-2.new.rack) (CrashTriple (HoldsEarly j) (LogMeta j c.args.disk) (LogIn j c.args.disk 0))
second g c j good is list = log_list_ran j good (g.met.R.Rack.agrees c.put.new.rack) is c.args.disk list c.put-2.ensures.does

-- the sync, after all blocks
last : (g : Over) (c : After-sync_slot g) (j : Job) → IsSpelled j → job_named j ≡ c.args.skip → j.batch ≡ c.args.batch.now
    → Ran (g.R.Rack.told c.put_blocks.new.rack) (g.R.Rack.told c.sync_slot.new.rack)
    (CrashTriple (HoldsEarly j) (LogIn j c.args.disk (length c.args.batch.now)) (LogStage j (c.args.disk + 1)))
last g c j good is same =
    rw (← (ap length same)) (log_sync_ran j good (g.met.R.Rack.agrees c.put_blocks.new.rack) is c.args.disk c.sync_slot.ensures.does)

pub returns-in_err-put : goal.returns-in_err-put
returns-in_err-put g c = record {
  leaves = SyncedPart_failed _ c.from_residual.ensures.1 c.put.ensures.slots (logs_write 2 c.requires.log_disk (omega arith) c.in_err-put.ensures.part);
  crash = λ j good is same list spelled.
      crash_failed _ _ c.from_residual.ensures.1
      (ends (log_meta_whole j good c.args.disk) (first g (goal.at.returns-in_err-put g c).After-put j good is spelled));
}

pub returns-in_err-put-2 : goal.returns-in_err-put-2
returns-in_err-put-2 g c = record {
  leaves =
      SyncedPart_failed _ c.from_residual-in_err-put-2.ensures.1 (c.put-2.ensures.slots ∙ c.put.ensures.slots)
      (CommitPart_then (logs_write 2 c.requires.log_disk (omega arith) c.in_ok-put.ensures.part) (logs_write 3 c.requires.log_disk (omega arith) c.in_err-put-2.ensures.part));
  crash = λ j good is same list spelled.
      let at = goal.at.returns-in_err-put-2 g c in
      crash_failed _ _ c.from_residual-in_err-put-2.ensures.1
      (ends (log_in_whole j good c.args.disk 0) (andthen (first g at.After-put j good is spelled) (second g at.After-put-2 j good is list)));
}

pub returns-in_err-put_blocks : goal.returns-in_err-put_blocks
returns-in_err-put_blocks g c = record {
  leaves =
      SyncedPart_failed _ c.from_residual-in_err-put_blocks.ensures.1 (c.put_blocks.ensures.slots ∙ c.put-2.ensures.slots ∙ c.put.ensures.slots)
      (CommitPart_then (CommitPart_then (logs_write 2 c.requires.log_disk (omega arith) c.in_ok-put.ensures.part) (logs_write 3 c.requires.log_disk (omega arith) c.in_ok-put-2.ensures.part)) c.in_err-put_blocks.ensures.part);
  crash = λ j good is same list spelled.
      let at = goal.at.returns-in_err-put_blocks g c in
      crash_raised _ c.from_residual-in_err-put_blocks.ensures.1
      (crash_after (first g at.After-put j good is spelled) (crash_after (second g at.After-put-2 j good is list) (c.in_err-put_blocks.ensures.crash j good is same)));
}

pub returns : goal.returns
returns g c = record {
  leaves =
      let may : ℕ → Type 0 = λ d. (d ≡ c.args.disk) × (c.args.skip ≢ Some d) in
      let slot = g.R.Rack.slot in
      let heads = AreCommitCalls-then _ _ _ _ _ _ c.put.ensures.part.lasts c.put-2.ensures.part.lasts in
      let written = AreCommitCalls-then _ _ _ _ _ _ heads c.put_blocks.ensures.part.lasts in
      let wet_heads = StaySyncedBut-both may _ _ _ (slot c.args.rack.now) (slot c.put.new.rack) (slot c.put-2.new.rack)
      c.put.ensures.part.lasts c.put-2.ensures.part.lasts c.put.ensures.still_synced c.put-2.ensures.still_synced in
      let wet = StaySyncedBut-both may _ _ _ (slot c.args.rack.now) (slot c.put-2.new.rack) (slot c.put_blocks.new.rack)
      heads c.put_blocks.ensures.part.lasts wet_heads c.put_blocks.ensures.still_synced in
      record {
        slots = c.sync_slot.ensures.slots ∙ c.put_blocks.ensures.slots ∙ c.put-2.ensures.slots ∙ c.put.ensures.slots;
        part = CommitPart_then (CommitPart_then (CommitPart_then (logs_write 2 c.requires.log_disk (omega arith) c.in_ok-put.ensures.part) (logs_write 3 c.requires.log_disk (omega arith) c.in_ok-put-2.ensures.part)) c.in_ok-put_blocks.ensures.part) (logs_sync c.requires.log_disk c.sync_slot.ensures.part);
        still_synced = on_ok c.sync_slot.result (StaySynced-synced c.args.skip c.args.disk _ _ _ (slot c.args.rack.now) (slot c.put_blocks.new.rack) (slot c.sync_slot.new.rack)
            written c.sync_slot.ensures.part.lasts wet c.sync_slot.ensures.still_synced c.sync_slot.ensures.synced);
      };
  crash = λ j good is same list spelled.
      let at = goal.at.returns g c in
      crash_after (first g at.After-put j good is spelled) (crash_after (second g at.After-put-2 j good is list)
      (crash_then (c.in_ok-put_blocks.ensures.crash j good is same) (crash_ran (log_whole j good (c.args.disk + 1)) (last g at.After-sync_slot j good is same))));
}

pub put-requires : goal.put-requires
put-requires g c = record {
  exists = c.requires.exists;
  can = λ not. log_can 2 c.requires.log c.requires.log_disk (omega arith) not;
}
