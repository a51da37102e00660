use Rattle.std.specs.Prelude.{◌≡◌, ℕ, ◌+◌, ◌<◌, ◌≤◌, ◌⊎◌, length, slice_index}
use Rattle.paraid_core.proofs.marks.count_spins.Given as goal

-- the disks before this one are counted
abbrev pub invariant-loop-disk : goal.invariant-loop-disk
invariant-loop-disk l = record {
  eight : length l.spins ≡ 8;
  raised : (d : ℕ) → l.fn.lo ≤ d → d < l.disk → slice_index l.spins d ≡ slice_index l.fn.spins d + 1;
  others : (d : ℕ) → (d < l.fn.lo) ⊎ (l.disk ≤ d) → slice_index l.spins d ≡ slice_index l.fn.spins d;
}
