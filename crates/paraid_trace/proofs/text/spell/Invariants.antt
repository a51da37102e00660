use Rattle.std.proofs.Common.{◌≡◌, ◌*◌, ◌++◌, length, take, drop}
use Rattle.hex.specs.Hex.{encode_with, lower_digits}
use Rattle.paraid_trace.proofs.text.spell.Given as goal

abbrev pub invariant-loop-i : goal.invariant-loop-i
invariant-loop-i l = record {
  size : length l.room ≡ 2 * length l.bytes;
  spelt : take (2 * l.i) l.room ++ encode_with lower_digits (drop l.i l.bytes) ≡ encode_with lower_digits l.bytes;
}
