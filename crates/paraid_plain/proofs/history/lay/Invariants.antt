use Rattle.std.proofs.Common.{◌≡◌, take}
use Rattle.paraid_base.specs.History.{last_of}
use Rattle.paraid_base.specs.Pairs.{numbered_blocks}
use Rattle.paraid_plain.proofs.history.lay.Given as goal

abbrev pub invariant-loop-at : goal.invariant-loop-at
invariant-loop-at l = l.bytes ≡ last_of l.block l.fn.bytes (take l.at (numbered_blocks l.write.blocks l.write.bytes))
