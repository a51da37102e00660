use Rattle.std.specs.Prelude.{◌≡◌, ℕ, ◌≤◌}
use Rattle.paraid_base.specs.History.{History}
use Rattle.paraid_rack.specs.Told.{Ran, CrashTriple}
use Rattle.paraid_txn.specs.Stores.{store_rack}
use Rattle.paraid_core.specs.Calls.{MakesDataCalls}
use Rattle.paraid_core.specs.Lost.{CoreMarksLost}
use Rattle.paraid_core.specs.Cores.{IsCoreHeldSinceCommit}
use Rattle.paraid_core.specs.Fills.{Filled}
use Rattle.paraid_core.specs.Steps.{LeavesCore}
use Rattle.paraid_event.specs.CoreServing.{RestsInShift}
use Rattle.paraid_shift.proofs.stripes.fill_stripes.Given as goal

-- the stripes before this one are copied
abbrev pub invariant-loop-s : goal.invariant-loop-s
invariant-loop-s g l = record {
  leaves : LeavesCore g.R.Rack.slot_count g.R.Rack.slot l.fn.core l.core;
  meta : l.core.meta ≡ l.fn.core.meta;
  from : l.fn.core.meta.fill ≤ l.s;
  calls : MakesDataCalls g.R.Rack.told l.fn.core l.core;
  marks : CoreMarksLost g.R.Rack.slot l.fn.core l.core;
  filled : (h : History) (lo : ℕ) → Ran (g.R.Rack.told (store_rack l.fn.core.store)) (g.R.Rack.told (store_rack l.core.store))
      (CrashTriple (IsCoreHeldSinceCommit g.R.Rack.slot_count l.fn.core h lo) (RestsInShift g.R.Rack.slot_count l.fn.core h lo) (Filled g.R.Rack.slot_count l.core h lo l.s));
}
