-- The XOR of two blocks, and the block of zeros
use Rattle.std.specs.Prelude.{replicate}
use Rattle.paraid_base.specs.declared.block.Block.{Block}
use Rattle.std.proofs.Common.{◌∙◌, sym}
use Rattle.paraid_base.specs.Bytes.{length-xor_bytes, length-zeros, xor_bytes, xor_bytes_small, zeros_small}

-- the block of zeros
unfoldable pub zero_block : Block
zero_block = record { bytes = replicate 512 0; whole = length-zeros 512; small = zeros_small 512 }

-- the XOR of two blocks
unfoldable pub xor : Block → Block → Block
xor a b = record {
  bytes = xor_bytes a.bytes b.bytes;
  whole = length-xor_bytes a.bytes b.bytes
      (a.whole ∙ sym b.whole) ∙ a.whole;
  small = xor_bytes_small a.bytes b.bytes a.small b.small;
}
