use Rattle.std.proofs.Common.{◌≡◌, ℕ, ◌<◌, ◌≤◌, get_or, bit_xor}
use Rattle.paraid_plan.proofs.alone.xor_both.Given as goal

abbrev pub invariant-loop-i : goal.invariant-loop-i
invariant-loop-i l = record {
  done : (k : ℕ) → k < l.i → get_or l.to.bytes k 0 ≡ bit_xor (get_or l.initial.to.bytes k 0) (bit_xor (get_or l.one.bytes k 0) (get_or l.other.bytes k 0));
  rest : (k : ℕ) → l.i ≤ k → get_or l.to.bytes k 0 ≡ get_or l.initial.to.bytes k 0;
}
