use Rattle.std.proofs.Common.{◌∙◌, arith}
use Rattle.std.proofs.lemmas.List.{get_or-set_same}
use Rattle.paraid_base.proofs.PairsLemmas.{pairs_of-first}
use Rattle.paraid_base.proofs.pairs.Pairs.keep_first.Goals as goal

pub loop-self-preserved : goal.loop-self-preserved
loop-self-preserved c = c.drop_last.ensures.first ∙ c.loop-self.invariant

pub returns-clause-pairs : goal.returns-clause-pairs
returns-clause-pairs c =
    let p = c.loop-self.self in
    let some = p.some in
    let test = c.loop-self-test.false in
    let blocks = p.blocks_whole in
    pairs_of-first _ _ _ (omega (arith, some, test))
    (get_or-set_same p.blocks 0 c.args.block 0 (omega (arith, blocks)))
    c.loop-self.invariant
