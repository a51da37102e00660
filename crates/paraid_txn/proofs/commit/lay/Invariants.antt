use Rattle.std.specs.Prelude.{◌≡◌, ◌≢◌, true, Some, Ok}
use Rattle.paraid_rack.specs.Told.{Ran, CrashTriple}
use Rattle.paraid_txn.specs.Losses.{StaySyncedBut}
use Rattle.paraid_txn.specs.Ready.{AreTargetsReady}
use Rattle.paraid_image.specs.Sides.{targets}
use Rattle.paraid_txn.specs.CommitStages.{IsSpelled, Job, LayIn, HoldsLate, job_gone}
use Rattle.paraid_image.specs.Batches.{names_disk}
use Rattle.paraid_txn.specs.CommitPart.{CommitPart}
use Rattle.paraid_txn.specs.Uses.{UsesTarget}
use Rattle.paraid_txn.proofs.commit.lay.Given as goal

abbrev pub invariant-loop-at : goal.invariant-loop-at
invariant-loop-at g l = record {
  slots : g.R.Rack.slot_count l.rack ≡ g.R.Rack.slot_count l.fn.rack;
  ready : AreTargetsReady l.skip (g.R.Rack.slot_count l.rack) (g.R.Rack.slot l.rack) (targets l.batch);
  part : CommitPart {A = Unit {0}} g.R.Rack (UsesTarget l.skip l.batch) l.fn.losses l.losses l.fn.rack l.rack (Ok tt);
  still_synced : StaySyncedBut (λ d. (names_disk l.batch d ≡ true) × (l.skip ≢ Some d)) (g.R.Rack.slot l.fn.rack) (g.R.Rack.slot l.rack);
  ran : (j : Job) → IsSpelled j → job_gone j ≡ l.skip → j.batch ≡ l.batch
      → Ran (g.R.Rack.told l.fn.rack) (g.R.Rack.told l.rack) (CrashTriple (HoldsLate j) (LayIn j 0) (LayIn j l.at));
}
