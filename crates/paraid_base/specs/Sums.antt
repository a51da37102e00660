-- Sums over the numbers below n: of numbers, and by XOR of blocks
use Rattle.std.specs.Prelude.{ℕ, ◌+◌, ◌==◌, if◌then◌else◌}
use Rattle.paraid_base.specs.declared.block.Block.{Block}
use Rattle.std.proofs.Common.{zero, suc}
use Rattle.paraid_base.specs.Xor.{xor, zero_block}

-- the sum of `f 0`, .., `f (n - 1)`
unfoldable pub sum_before : (ℕ → ℕ) → ℕ → ℕ
sum_before f zero = 0
sum_before f (suc n) = sum_before f n + f n

-- the XOR of `f 0`, .., `f (n - 1)`
unfoldable pub xor_upto : (ℕ → Block) → ℕ → Block
xor_upto f zero = zero_block
xor_upto f (suc n) = xor (xor_upto f n) (f n)

-- the row without member `i`
abbrev pub without : (ℕ → Block) → ℕ → ℕ → Block
without f i d = if d == i then zero_block else f d
