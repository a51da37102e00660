use Rattle.std.specs.Prelude.{◌≡◌, ℕ, ◌<◌, ◌≤◌, true, false}
use Rattle.paraid_txn.specs.Losses.{StaySynced, IsSyncedAt}
use Rattle.paraid_txn.specs.Stores.{store_rack}
use Rattle.paraid_core.specs.CoreInvariant.{is_copied}
use Rattle.paraid_core.specs.CellCopies.{StaysCopied}
use Rattle.paraid_core.specs.Fills.{StaysFilled}
use Rattle.paraid_core.specs.Steps.{LeavesCore, StandsStill}
use Rattle.paraid_core.specs.Units.{StaysRebuilt}
use Rattle.paraid_core.specs.Calls.{MakesCopySyncs}
use Rattle.paraid_core.specs.Lost.{CoreMarksLost}
use Rattle.paraid_core.proofs.staged.Core.settle.Given as goal

-- the disks before this one are synced
abbrev pub invariant-loop-disk : goal.invariant-loop-disk
invariant-loop-disk g l = record {
  leaves : LeavesCore g.R.Rack.slot_count g.R.Rack.slot l.fn.self l.self;
  still_synced : StaySynced (g.R.Rack.slot (store_rack l.fn.self.store)) (g.R.Rack.slot (store_rack l.self.store));
  synced : (d : ℕ) → d < l.disk → is_copied l.fn.self.copied d ≡ true → IsSyncedAt (g.R.Rack.slot (store_rack l.self.store)) d;
  copies_synced : (d : ℕ) → d < l.disk → is_copied l.self.copied d ≡ false;
  others : (d : ℕ) → l.disk ≤ d → is_copied l.self.copied d ≡ is_copied l.fn.self.copied d;
  stands : StandsStill g.R.Rack.slot_count g.R.Rack.told l.fn.self l.self;
  marks : CoreMarksLost g.R.Rack.slot l.fn.self l.self;
  calls : MakesCopySyncs g.R.Rack.told l.fn.self l.self;
  filled : StaysFilled g.R.Rack.slot_count g.R.Rack.told l.fn.self l.self;
  cells : StaysCopied g.R.Rack.slot_count g.R.Rack.told l.fn.self l.self;
  rebuilt : StaysRebuilt g.R.Rack.slot_count g.R.Rack.told l.fn.self l.self;
}
