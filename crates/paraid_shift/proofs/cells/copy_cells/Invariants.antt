use Rattle.std.specs.Prelude.{◌≡◌, ℕ, ◌<◌, ◌≤◌}
use Rattle.paraid_core.specs.Calls.{MakesDataCalls}
use Rattle.paraid_core.specs.Lost.{CoreMarksLost}
use Rattle.paraid_core.specs.Steps.{LeavesCore}
use Rattle.paraid_shift.specs.Rising.{CopiesFromRest}
use Rattle.paraid_shift.specs.Units.{HasDirtyBefore, are_copied_before}
use Rattle.paraid_shift.proofs.cells.copy_cells.Given as goal

-- the cells of the group are copied
abbrev pub invariant-loop-at : goal.invariant-loop-at
invariant-loop-at g l = record {
  leaves : LeavesCore g.R.Rack.slot_count g.R.Rack.slot l.fn.core l.core;
  meta : l.core.meta ≡ l.fn.core.meta;
  units : l.group.count ≡ l.at;
  disk : l.group.disk ≤ 8;
  start : ◌≡◌ {A = ℕ} l.group.count 0 → (◌≡◌ {A = ℕ} l.group.row 0) × (◌≡◌ {A = ℕ} l.group.disk 0) × (◌≡◌ {A = ℕ} l.group.blocks 0);
  before : 0 < l.group.count → HasDirtyBefore l.fn.core.meta l.fn.core.dirty l.group.row l.group.disk;
  calls : MakesDataCalls g.R.Rack.told l.fn.core l.core;
  marks : CoreMarksLost g.R.Rack.slot l.fn.core l.core;
  copied : CopiesFromRest g.R.Rack.slot_count g.R.Rack.told l.fn.core l.core (are_copied_before l.fn.core.meta l.group.row l.group.disk);
}
