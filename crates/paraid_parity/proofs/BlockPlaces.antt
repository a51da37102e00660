-- The XOR of two blocks, place by place
use Rattle.std.proofs.Common.{◌≡◌, ℕ, ◌<◌, length, get_or, arith, sym, ◌∙◌, bit_xor}
use Rattle.std.specs.Prelude.{replicate}
use Rattle.std.proofs.lemmas.List.{ext_get_or, get_or-replicate}
use Rattle.std.proofs.lemmas.Simd.{get_or-zip2}
use Rattle.paraid_base.specs.declared.block.Block.{Block}
use Rattle.paraid_base.specs.Xor.{xor, zero_block}
use Rattle.paraid_base.proofs.XorLemmas.{same_block}
use Rattle.paraid_base.specs.Bytes.{xor_bytes, length-xor_bytes, length-zeros}

-- a block that is the XOR at every place is the XOR
pub xor_from_places : (a b c : Block) → ((k : ℕ) → k < 512 → get_or c.bytes k 0 ≡ bit_xor (get_or a.bytes k 0) (get_or b.bytes k 0)) → c ≡ xor a b
unfolding xor
xor_from_places a b c h =
    let la : length a.bytes ≡ 512 = a.whole in
    let lb : length b.bytes ≡ 512 = b.whole in
    let lc : length c.bytes ≡ 512 = c.whole in
    let lx = length-xor_bytes a.bytes b.bytes (omega arith) in
    same_block _ _ (ext_get_or 0 c.bytes (xor_bytes a.bytes b.bytes) (omega (arith, lx))
    (λ k l. h k (omega arith) ∙ sym (get_or-zip2 bit_xor a.bytes b.bytes k 0 0 0 (omega arith) (omega arith))))

-- a block with zero at every place is the zero block
pub zeroed_from_places : (a : Block) → ((k : ℕ) → k < 512 → get_or a.bytes k 0 ≡ 0) → a ≡ zero_block
unfolding zero_block
zeroed_from_places a h =
    let la : length a.bytes ≡ 512 = a.whole in
    let lz = length-zeros 512 in
    same_block _ _ (ext_get_or 0 a.bytes (replicate 512 0) (omega (arith, lz))
    (λ k l. h k (omega arith) ∙ sym (get_or-replicate 512 k 0 0 (omega arith))))

pub place_of_zeroed : (k : ℕ) → k < 512 → get_or zero_block.bytes k 0 ≡ 0
unfolding zero_block
place_of_zeroed k l = get_or-replicate 512 k 0 0 l
