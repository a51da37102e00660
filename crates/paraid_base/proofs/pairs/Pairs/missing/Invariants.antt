use Rattle.std.proofs.Common.{ℕ, ◌<◌, take}
use Rattle.std.specs.Prelude.{All}
use Rattle.paraid_base.specs.declared.block.Block.{Block}
use Rattle.paraid_base.specs.Pairs.{numbered_blocks}
use Rattle.paraid_base.proofs.pairs.Pairs.missing.Given as goal

abbrev pub invariant-loop-at : goal.invariant-loop-at
invariant-loop-at l = All (λ (pair : ℕ × Block). pair.0 < l.count) (take l.at (numbered_blocks l.self.blocks l.self.bytes))
