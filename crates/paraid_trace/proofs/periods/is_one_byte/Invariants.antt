use Rattle.std.proofs.Common.{◌≡◌, ℕ, ◌<◌, true, get_or}
use Rattle.paraid_trace.proofs.periods.is_one_byte.Given as goal

abbrev pub invariant-loop-at : goal.invariant-loop-at
invariant-loop-at l = record {
  same : l.is_one ≡ true → (k : ℕ) → k < l.at → get_or l.bytes k 0 ≡ get_or l.bytes 0 0;
  one : ((k : ℕ) → k < l.at → get_or l.bytes k 0 ≡ get_or l.bytes 0 0) → l.is_one ≡ true;
}
