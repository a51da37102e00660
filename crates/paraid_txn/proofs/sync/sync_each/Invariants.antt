use Rattle.std.specs.Prelude.{◌≡◌, ◌≢◌, ℕ, ◌<◌, Some, Ok}
use Rattle.paraid_txn.specs.CommitPart.{CommitPart}
use Rattle.paraid_txn.specs.Losses.{StaySynced, IsSyncedAt}
use Rattle.paraid_txn.specs.Uses.{CanSync, UsesSync}
use Rattle.paraid_txn.proofs.sync.sync_each.Given as goal

abbrev pub invariant-loop-disk : goal.invariant-loop-disk
invariant-loop-disk g l = record {
  slots : g.R.Rack.slot_count l.rack ≡ g.R.Rack.slot_count l.fn.rack;
  can : CanSync l.disks l.skip (g.R.Rack.slot l.rack);
  part : CommitPart {A = Unit {0}} g.R.Rack (UsesSync l.disks l.skip) l.fn.losses l.losses l.fn.rack l.rack (Ok tt);
  still_synced : StaySynced (g.R.Rack.slot l.fn.rack) (g.R.Rack.slot l.rack);
  synced : (d : ℕ) → d < l.disk → l.skip ≢ Some d → IsSyncedAt (g.R.Rack.slot l.rack) d;
}
