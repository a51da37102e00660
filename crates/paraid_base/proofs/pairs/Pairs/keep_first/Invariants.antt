use Rattle.std.proofs.Common.{◌≡◌, get_or}
use Rattle.paraid_base.specs.Xor.{zero_block}
use Rattle.paraid_base.proofs.pairs.Pairs.keep_first.Given as goal

abbrev pub invariant-loop-self : goal.invariant-loop-self
invariant-loop-self l = get_or l.self.bytes 0 zero_block ≡ get_or l.fn.self.bytes 0 zero_block

abbrev pub decreases-loop-self : goal.decreases-loop-self
decreases-loop-self l = l.self.count
