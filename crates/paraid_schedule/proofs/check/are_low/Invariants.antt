use Rattle.std.proofs.Common.{ℕ, ◌<◌, ◌≤◌, slice_index}
use Rattle.paraid_schedule.specs.Bounds.{no_bound}
use Rattle.paraid_schedule.proofs.check.are_low.Given as goal

abbrev pub invariant-loop-k : goal.invariant-loop-k
invariant-loop-k l = (i : ℕ) → i < l.k → slice_index l.bounds i ≤ no_bound
