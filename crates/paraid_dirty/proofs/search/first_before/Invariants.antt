use Rattle.std.proofs.Common.{◌*◌}
use Rattle.paraid_dirty.specs.Bits.{bit_in, on_disks, AreClear}
use Rattle.paraid_dirty.proofs.search.first_before.Given as goal

abbrev pub invariant-loop-at : goal.invariant-loop-at
invariant-loop-at l = AreClear (on_disks l.lo l.hi (bit_in l.words)) l.from (64 * l.at)
