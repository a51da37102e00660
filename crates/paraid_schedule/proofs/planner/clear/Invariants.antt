use Rattle.std.proofs.Common.{◌≡◌, ◌⊎◌, ℕ, ◌+◌, ◌<◌, ◌≤◌, slice_index}
use Rattle.paraid_schedule.specs.Bounds.{no_bound}
use Rattle.paraid_schedule.proofs.planner.clear.Given as goal

abbrev pub invariant-loop-j : goal.invariant-loop-j
invariant-loop-j l = record {
  cleared : (i : ℕ) → i < l.j → slice_index l.bounds (l.at + i) ≡ no_bound;
  same : (k : ℕ) → (k < l.at) ⊎ (l.at + l.j ≤ k) → slice_index l.bounds k ≡ slice_index l.fn.bounds k;
  most : (k : ℕ) → slice_index l.bounds k ≤ no_bound;
}
