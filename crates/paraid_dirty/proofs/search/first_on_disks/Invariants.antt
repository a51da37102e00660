use Rattle.std.proofs.Common.{◌*◌}
use Rattle.paraid_dirty.specs.Bits.{bit_in, on_disks, AreClear}
use Rattle.paraid_dirty.proofs.search.first_on_disks.Given as goal

abbrev pub invariant-loop-part : goal.invariant-loop-part
invariant-loop-part l = AreClear (on_disks l.lo l.hi (bit_in l.words)) l.from (4096 * l.part)
