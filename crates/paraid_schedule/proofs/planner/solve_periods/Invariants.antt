use Rattle.std.proofs.Common.{◌≡◌, ℕ, ◌≤◌, length, slice_index}
use Rattle.paraid_schedule.specs.Bounds.{no_bound, bound}
use Rattle.paraid_base.specs.Regions.{IsGear}
use Rattle.paraid_schedule.specs.Solved.{AreSolvedFrom}
use Rattle.paraid_schedule.proofs.planner.solve_periods.Given as goal

abbrev pub invariant-loop-t : goal.invariant-loop-t
invariant-loop-t l = record {
  solved : AreSolvedFrom l.t l.setup l.demand l.ups l.bounds;
  end : (a left : ℕ) → IsGear l.setup.geometry a → left ≤ l.ups → bound l.setup.geometry l.ups l.bounds (length l.demand) a left ≡ 0;
  most : (k : ℕ) → slice_index l.bounds k ≤ no_bound;
}
