use Rattle.std.specs.Prelude.{◌≡◌, ℕ, ◌≤◌}
use Rattle.paraid_base.specs.History.{History}
use Rattle.paraid_rack.specs.declared.call.Power.TheVariants.{Spinning}
use Rattle.paraid_rack.specs.Told.{Ran, CrashTriple}
use Rattle.paraid_txn.specs.Commit.{gone_out}
use Rattle.paraid_txn.specs.Stores.{store_rack}
use Rattle.paraid_txn.specs.Uses.{EachCall}
use Rattle.paraid_core.specs.Calls.{IsDataCall}
use Rattle.paraid_core.specs.Cores.{IsCoreHeldSinceCommit}
use Rattle.paraid_core.specs.Steps.{LeavesCore}
use Rattle.paraid_core.specs.Units.{UnitsRebuilt}
use Rattle.paraid_rebuild.proofs.moving.copy_units.Given as goal

-- the units before this one are copied
abbrev pub invariant-loop-number : goal.invariant-loop-number
invariant-loop-number g l = record {
  leaves : LeavesCore g.R.Rack.slot_count g.R.Rack.slot l.fn.core l.core;
  meta : l.core.meta ≡ l.fn.core.meta;
  spins : (g.R.Rack.slot (store_rack l.core.store) l.fn.disk).power ≡ Spinning;
  from : l.fn.first ≤ l.number;
  calls : Ran (g.R.Rack.told (store_rack l.fn.core.store)) (g.R.Rack.told (store_rack l.core.store)) (EachCall (IsDataCall l.fn.core.meta.setup.geometry.disks (gone_out l.fn.core.meta.out)));
  copied : (h : History) (lo : ℕ) → Ran (g.R.Rack.told (store_rack l.fn.core.store)) (g.R.Rack.told (store_rack l.core.store))
      (CrashTriple (IsCoreHeldSinceCommit g.R.Rack.slot_count l.fn.core h lo) (UnitsRebuilt g.R.Rack.slot_count l.fn.core h lo l.fn.first) (UnitsRebuilt g.R.Rack.slot_count l.core h lo l.number));
}
