use Rattle.std.proofs.Common.{◌≡◌, ◌⊎◌, ℕ, ◌+◌, ◌<◌, ◌≤◌, slice_index, min}
use Rattle.paraid_schedule.specs.Bounds.{no_bound}
use Rattle.paraid_schedule.proofs.planner.relax.Given as goal

abbrev pub invariant-loop-j : goal.invariant-loop-j
invariant-loop-j l = record {
  relaxed : (i : ℕ) → i < l.j → slice_index l.bounds (l.at + i) ≡ min (slice_index l.fn.bounds (l.at + i)) (l.cost + slice_index l.fn.bounds (l.next + i));
  same : (k : ℕ) → (k < l.at) ⊎ (l.at + l.j ≤ k) → slice_index l.bounds k ≡ slice_index l.fn.bounds k;
  most : (k : ℕ) → slice_index l.bounds k ≤ no_bound;
}
