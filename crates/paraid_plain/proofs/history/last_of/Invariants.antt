use Rattle.std.proofs.Common.{◌≡◌, drop}
use Rattle.std.specs.Prelude.{map}
use Rattle.paraid_base.specs.History.{joined_entries, last_of}
use Rattle.paraid_base.specs.Pairs.{pairs_of}
use Rattle.paraid_base.specs.Xor.{zero_block}
use Rattle.paraid_plain.proofs.history.last_of.Given as goal

abbrev pub invariant-loop-write : goal.invariant-loop-write
invariant-loop-write l = last_of l.block zero_block (joined_entries (map pairs_of l.history)) ≡ last_of l.block l.bytes (joined_entries (map pairs_of (drop l.write-index l.history)))
