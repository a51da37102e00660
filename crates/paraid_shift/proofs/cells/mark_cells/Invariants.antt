use Rattle.std.specs.Prelude.{◌≡◌, ℕ}
use Rattle.paraid_event.specs.CoreServing.{IsCoreServing}
use Rattle.paraid_shift.specs.Rising.{KeepsCopied}
use Rattle.paraid_shift.specs.Units.{CoreCountsMoved, are_copied_before}
use Rattle.paraid_shift.proofs.cells.mark_cells.Given as goal

-- so many are marked
abbrev pub invariant-loop-marked : goal.invariant-loop-marked
invariant-loop-marked g l = record {
  serving : IsCoreServing g.R.Rack.slot_count g.R.Rack.slot l.core;
  meta : l.core.meta ≡ l.fn.core.meta;
  store : l.core.store ≡ l.fn.core.store;
  moves : CoreCountsMoved g.R.Rack.slot_count l.fn.core l.core l.marked;
  idle : ◌≡◌ {A = ℕ} l.marked 0 → l.core ≡ l.fn.core;
  copied : KeepsCopied g.R.Rack.slot_count g.R.Rack.told l.fn.core l.core (are_copied_before l.fn.core.meta l.fn.group.row l.fn.group.disk);
}
