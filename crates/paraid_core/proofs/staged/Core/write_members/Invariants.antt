use Rattle.std.specs.Prelude.{◌≡◌, ℕ}
use Rattle.paraid_base.specs.History.{History}
use Rattle.paraid_rack.specs.Told.{Ran, CrashTriple}
use Rattle.paraid_txn.specs.Stores.{store_rack}
use Rattle.paraid_core.specs.Cores.{IsCoreHeldSinceCommit}
use Rattle.paraid_core.specs.Fills.{Filling}
use Rattle.paraid_core.specs.Steps.{LeavesCore}
use Rattle.paraid_core.specs.Calls.{MakesDataCalls}
use Rattle.paraid_core.specs.Lost.{CoreMarksLost}
use Rattle.paraid_core.proofs.staged.Core.write_members.Given as goal

-- the blocks of the disks before this one are written
abbrev pub invariant-loop-disk : goal.invariant-loop-disk
invariant-loop-disk g l = record {
  leaves : LeavesCore g.R.Rack.slot_count g.R.Rack.slot l.fn.self l.self;
  marks : CoreMarksLost g.R.Rack.slot l.fn.self l.self;
  calls : MakesDataCalls g.R.Rack.told l.fn.self l.self;
  meta : l.self.meta ≡ l.fn.self.meta;
  written : (h : History) (lo : ℕ) → Ran (g.R.Rack.told (store_rack l.fn.self.store)) (g.R.Rack.told (store_rack l.self.store))
      (CrashTriple (IsCoreHeldSinceCommit g.R.Rack.slot_count l.fn.self h lo) (Filling g.R.Rack.slot_count l.fn.self h lo l.fn.s l.fn.blocks 0) (Filling g.R.Rack.slot_count l.self h lo l.fn.s l.fn.blocks l.disk));
}
