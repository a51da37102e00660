use Rattle.std.specs.Prelude.{◌≡◌, ◌≢◌, Some, Ok}
use Rattle.paraid_rack.specs.Told.{Ran, CrashTriple}
use Rattle.paraid_txn.specs.Losses.{StaySyncedBut}
use Rattle.paraid_txn.specs.Ready.{IsLogReady}
use Rattle.paraid_txn.specs.CommitStages.{IsSpelled, Job, LogIn, HoldsEarly, job_named}
use Rattle.paraid_txn.specs.CommitPart.{CommitPart}
use Rattle.paraid_txn.specs.Uses.{UsesLog}
use Rattle.paraid_txn.proofs.commit.put_blocks.Given as goal

abbrev pub invariant-loop-at : goal.invariant-loop-at
invariant-loop-at g l = record {
  slots : g.R.Rack.slot_count l.rack ≡ g.R.Rack.slot_count l.fn.rack;
  log : IsLogReady l.skip (g.R.Rack.slot l.rack);
  part : CommitPart {A = Unit {0}} g.R.Rack (UsesLog l.skip) l.fn.losses l.losses l.fn.rack l.rack (Ok tt);
  still_synced : StaySyncedBut (λ d. (d ≡ l.disk) × (l.skip ≢ Some d)) (g.R.Rack.slot l.fn.rack) (g.R.Rack.slot l.rack);
  ran : (j : Job) → IsSpelled j → job_named j ≡ l.skip → j.batch ≡ l.batch
      → Ran (g.R.Rack.told l.fn.rack) (g.R.Rack.told l.rack) (CrashTriple (HoldsEarly j) (LogIn j l.disk 0) (LogIn j l.disk l.at));
}
