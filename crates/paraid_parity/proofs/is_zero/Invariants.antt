use Rattle.std.proofs.Common.{◌≡◌, ℕ, ◌<◌, get_or}
use Rattle.paraid_base.specs.Xor.{zero_block}
use Rattle.paraid_parity.proofs.is_zero.Given as goal

abbrev pub invariant-loop-at : goal.invariant-loop-at
invariant-loop-at l = record {
  zero : l.most ≡ 0 → (k : ℕ) → k < l.at → get_or l.block.bytes k 0 ≡ 0;
  other : l.block ≡ zero_block → l.most ≡ 0;
}
