use Rattle.std.proofs.Common.{◌≡◌, take}
use Rattle.paraid_config.proofs.list.bytes_of.Given as goal

abbrev pub invariant-loop-number : goal.invariant-loop-number
invariant-loop-number l = l.bytes.items ≡ take l.number-index l.numbers
