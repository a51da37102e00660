use Rattle.std.specs.Prelude.{◌≢◌, ◌≤◌, []}
use Rattle.paraid_shift.specs.Outcomes.{ServesOn}
use Rattle.paraid_shift.specs.Steps.{CoreStepsInEvent}
use Rattle.paraid_shift.specs.Units.{AreUnitsDone, CoreCountsMoved}
use Rattle.paraid_shift.proofs.moving.step_cells.Given as goal

-- so many cells are moved
abbrev pub invariant-loop-at : goal.invariant-loop-at
invariant-loop-at g l = record {
  serves : ServesOn g.R.Rack.slot_count g.R.Rack.slot l.fn.core l.core l.at;
  few : l.moved ≤ l.fn.most;
  going : l.at ≤ l.moved;
  moves : CoreCountsMoved g.R.Rack.slot_count l.fn.core l.core l.moved;
  steps : CoreStepsInEvent g.R.Rack.slot_count g.R.Rack.told l.fn.core l.core l.at;
  ended : l.core.batch ≢ [] → AreUnitsDone l.core.meta l.core.dirty;
}
