use Rattle.std.proofs.Common.{◌≡◌, ◌≤◌, ◌+◌, ◌*◌, ◌++◌, length, take}
use Rattle.paraid_trace.specs.StateTexts.{numbers_text}
use Rattle.paraid_trace.proofs.replies.tell_spins.Given as goal

abbrev pub invariant-loop-count : goal.invariant-loop-count
invariant-loop-count l = record {
  value : l.into ≡ l.fn.into ++ numbers_text (take l.count-index l.spins);
  length : length l.into ≤ length l.fn.into + 41 * l.count-index;
}
