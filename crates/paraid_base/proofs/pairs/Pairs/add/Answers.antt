use Rattle.std.proofs.Common.{◌+◌, ◌∙◌, ap, arith, take, set, List, sym}
use Rattle.paraid_base.specs.declared.block.Block.{Block}
use Rattle.paraid_base.specs.Pairs.{pairs_of, numbered_blocks}
use Rattle.paraid_base.proofs.PairsLemmas.{take-zipped-set}
use Rattle.paraid_base.proofs.pairs.Pairs.add.Goals as goal

pub returns-clause-pairs : goal.returns-clause-pairs
unfolding pairs_of
returns-clause-pairs c =
    let old = c.args.self.now in
    let blocks = old.blocks_whole in
    let bytes = old.bytes_whole in
    let room = c.requires in
    ap (λ (x : List Block). take (old.count + 1) (numbered_blocks (set old.blocks old.count c.args.block) x)) c.put.ensures
    ∙ take-zipped-set old.blocks old.bytes old.count c.args.block c.args.bytes.now (blocks ∙ sym bytes) (omega (arith, room, blocks))
