use Rattle.std.proofs.Common.{◌∙◌, subst, ℕ, ◌<◌, sym, arith}
use Rattle.paraid_txn.proofs.SyncedPartLemmas.{SyncedPart_failed}
use Rattle.paraid_txn.proofs.ReadyLemmas.{log_can, log_stays_ready}
use Rattle.paraid_txn.proofs.CommitPartLemmas.{CommitPart_then, logs_sync, logs_write}
use Rattle.paraid_txn.proofs.CrashSpecificationLemmas.{on_ok}
use Rattle.paraid_txn.proofs.DownLemmas.{StaySynced-synced}
use Rattle.paraid_txn.proofs.PutSyncedLemmas.{put_gives_up, put_then_sync}
use Rattle.paraid_txn.proofs.calls.put_synced.Goals as goal

pub put-requires : goal.put-requires
put-requires g c = record {
  exists = c.requires.exists;
  can = λ not. log_can c.args.place c.requires.log c.requires.log_disk c.requires.in_log not;
}

pub sync_slot-requires : goal.sync_slot-requires
sync_slot-requires g c = record {
  exists = subst (λ (n : ℕ). c.args.disk < n) (sym c.put.ensures.slots) c.requires.exists;
  can = λ not. log_can 0 (log_stays_ready c.put.ensures.part.lasts c.requires.log) c.requires.log_disk (omega arith) not;
}

pub returns-in_err-put : goal.returns-in_err-put
returns-in_err-put g c = record {
  does = put_gives_up _ _ c.from_residual.ensures.1 c.in_err-put.ensures.does;
  leaves = SyncedPart_failed _ c.from_residual.ensures.1 c.put.ensures.slots (logs_write c.args.place c.requires.log_disk c.requires.in_log c.in_err-put.ensures.part);
}

pub returns : goal.returns
returns g c = record {
  does = put_then_sync c.put.new.rack c.in_ok-put.ensures.does c.sync_slot.ensures.does;
  leaves = record {
    slots = c.sync_slot.ensures.slots ∙ c.put.ensures.slots;
    part = CommitPart_then (logs_write c.args.place c.requires.log_disk c.requires.in_log c.in_ok-put.ensures.part) (logs_sync c.requires.log_disk c.sync_slot.ensures.part);
    still_synced = on_ok c.sync_slot.result (StaySynced-synced c.args.skip c.args.disk _ _ _ (g.R.Rack.slot c.args.rack.now) (g.R.Rack.slot c.put.new.rack) (g.R.Rack.slot c.sync_slot.new.rack)
        c.put.ensures.part.lasts c.sync_slot.ensures.part.lasts c.put.ensures.still_synced c.sync_slot.ensures.still_synced c.sync_slot.ensures.synced);
  };
}
