use Rattle.std.specs.Prelude.{◌≡◌, ◌≢◌, ℕ, ◌<◌, true, Some, Ok}
use Rattle.paraid_rack.specs.Told.{Ran, CrashTriple}
use Rattle.paraid_txn.specs.Losses.{StaySynced, IsSyncedAt}
use Rattle.paraid_txn.specs.Ready.{AreTargetsReady}
use Rattle.paraid_image.specs.Sides.{targets}
use Rattle.paraid_txn.specs.CommitStages.{IsSpelled, Job, SyncIn, HoldsLate, job_gone}
use Rattle.paraid_image.specs.Batches.{names_disk}
use Rattle.paraid_txn.specs.CommitPart.{CommitPart}
use Rattle.paraid_txn.specs.Uses.{UsesTarget}
use Rattle.paraid_txn.proofs.commit.sync_target_slots.Given as goal

abbrev pub invariant-loop-disk : goal.invariant-loop-disk
invariant-loop-disk g l = record {
  slots : g.R.Rack.slot_count l.rack ≡ g.R.Rack.slot_count l.fn.rack;
  ready : AreTargetsReady l.skip (g.R.Rack.slot_count l.rack) (g.R.Rack.slot l.rack) (targets l.batch);
  part : CommitPart {A = Unit {0}} g.R.Rack (UsesTarget l.skip l.batch) l.fn.losses l.losses l.fn.rack l.rack (Ok tt);
  still_synced : StaySynced (g.R.Rack.slot l.fn.rack) (g.R.Rack.slot l.rack);
  synced : (d : ℕ) → d < l.disk → names_disk l.batch d ≡ true → l.skip ≢ Some d → IsSyncedAt (g.R.Rack.slot l.rack) d;
  ran : (j : Job) → IsSpelled j → job_gone j ≡ l.skip → j.batch ≡ l.batch
      → Ran (g.R.Rack.told l.fn.rack) (g.R.Rack.told l.rack) (CrashTriple (HoldsLate j) (SyncIn j 0) (SyncIn j l.disk));
}
