-- The blocks that the pairs of a write name.
use Rattle.std.specs.Prelude.{◌≡◌, ℕ, ◌<◌, All, get_or, take}
use Rattle.std.proofs.Common.{sym, ◌∙◌, subst, arith}
use Rattle.std.proofs.lemmas.List.{get_or-take}
use Rattle.paraid_base.specs.declared.block.Block.{Block}
use Rattle.paraid_base.specs.declared.pairs.Pairs.{Pairs}
use Rattle.paraid_base.specs.Pairs.{pairs_of, numbered_blocks}
use Rattle.paraid_base.specs.Xor.{zero_block}
use Rattle.paraid_base.proofs.PairsLemmas.{get_or-zipped, length-pairs_of}

-- each pair is on a block of the array
pub pair_below : (p : Pairs) (count i : ℕ) → All (λ (pair : ℕ × Block). pair.0 < count) (pairs_of p) → i < p.count → get_or p.blocks i 0 < count
unfolding pairs_of
pair_below p count i all l =
    let long = length-pairs_of p in
    let at : get_or (take p.count (numbered_blocks p.blocks p.bytes)) i (0, zero_block) ≡ (get_or p.blocks i 0, get_or p.bytes i zero_block) =
    get_or-take p.count (numbered_blocks p.blocks p.bytes) i (0, zero_block) l ∙ get_or-zipped p.blocks p.bytes i 0 zero_block (p.blocks_whole ∙ sym p.bytes_whole) in
    subst (λ (pair : ℕ × Block). pair.0 < count) at (all i (0, zero_block) (omega (arith, long, l)))
