-- Blocks that repeat a list of bytes
use Rattle.std.specs.Prelude.{◌≡◌, ℕ, ◌%◌, ◌<◌, List, [], ◌∷◌, length, slice_index, refl}
use Rattle.std.proofs.Common.{ap, arith, zero, suc}
use Rattle.paraid_base.specs.declared.block.Block.{Block}

-- the block is the repetition of the list, cut at 512 bytes
pub record Repeats (pattern : List ℕ) (block : Block) : Type 0 where
  pub each : (k : ℕ)
      → k < 512 → slice_index block.bytes k ≡ slice_index pattern (k % length pattern)

-- the list `f 0`, .., `f (n - 1)`
abbrev pub list_upto : (ℕ → ℕ) → ℕ → List ℕ
list_upto f zero = []
list_upto f (suc n) = f 0 ∷ list_upto (λ k. f (suc k)) n

-- byte `k` of the repetition of a list, as a byte
abbrev pub byte_of : List ℕ → ℕ → ℕ
byte_of pattern k = slice_index pattern (k % length pattern) % 256

-- the list of `f 0`, .., `f (n - 1)` has length `n` (a fact)
pub length-listed : (f : ℕ → ℕ) (n : ℕ) → length (list_upto f n) ≡ n
length-listed f zero = refl
length-listed f (suc n) = ap suc (length-listed (λ k. f (suc k)) n)

-- a list of bytes has bytes (a fact)
pub list_upto_small : (f : ℕ → ℕ)
    → ((k : ℕ) → f k < 256) → (n k : ℕ) → slice_index (list_upto f n) k < 256
list_upto_small f h zero k = omega arith
list_upto_small f h (suc n) zero = h 0
list_upto_small f h (suc n) (suc k) = list_upto_small (λ i. f (suc i)) (λ i. h (suc i)) n k

-- a byte of a pattern is a byte (a fact)
pub byte_small : (pattern : List ℕ) (k : ℕ) → byte_of pattern k < 256
byte_small pattern k = omega arith

-- the block that repeats a list of bytes
unfoldable pub repeating_block : List ℕ → Block
repeating_block pattern = record {
  bytes = list_upto (byte_of pattern) 512;
  whole = length-listed (byte_of pattern) 512;
  small = list_upto_small (byte_of pattern) (byte_small pattern) 512;
}
