use Rattle.std.proofs.Common.{ℕ, ◌<◌, ◌≤◌, slice_index}
use Rattle.paraid_schedule.specs.Bounds.{no_bound}
use Rattle.paraid_base.specs.Regions.{IsGear}
use Rattle.paraid_schedule.specs.Solved.{IsSolvedAt, AreSameIn}
use Rattle.paraid_schedule.proofs.planner.solve_period.Given as goal

abbrev pub invariant-loop-a : goal.invariant-loop-a
invariant-loop-a l = record {
  solved : (e : ℕ) → e < l.a → IsGear l.setup.geometry e → IsSolvedAt l.setup l.demanded l.ups l.bounds l.t e;
  same : (u : ℕ) → l.t < u → AreSameIn l.setup.geometry l.ups u l.fn.bounds l.bounds;
  most : (k : ℕ) → slice_index l.bounds k ≤ no_bound;
}
