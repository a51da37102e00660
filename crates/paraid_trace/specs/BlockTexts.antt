-- The text of a block
use Rattle.std.specs.Prelude.{◌≡◌, ℕ, ◌+◌, ◌-◌, ◌<◌, ◌≤◌, Bool, if◌then◌else◌, List, length, take, drop}
use Rattle.std.specs.Str.{bytes_eq}
use Rattle.std.proofs.Common.{zero, suc}
use Rattle.hex.specs.Hex.{encode_lower}
use Rattle.paraid_base.specs.declared.block.Block.{Block}
use Rattle.paraid_trace.specs.Repeats.{Repeats}

-- each byte of a block, from place `p` on, is the one `p` places before it
abbrev pub is_period : List ℕ → ℕ → Bool
is_period bytes p = bytes_eq (drop p bytes) (take (512 - p) bytes)

-- the least number from `p` on that passes, or `p + n` where none of the first `n` does
abbrev pub least_from : (ℕ → Bool) → ℕ → ℕ → ℕ
least_from test p zero = p
least_from test p (suc n) = if test p then p else least_from test (p + 1) n

-- the least period, from 1 to 512
unfoldable pub period_of : List ℕ → ℕ
period_of bytes = least_from (is_period bytes) 1 511

-- the text of a block: the bytes of the least period, in lower case
unfoldable pub block_text : Block → List ℕ
block_text block = encode_lower (take (period_of block.bytes) block.bytes)

-- the text spells, in lower case, the shortest list of bytes whose repetition, cut at 512 bytes,
-- is the block
pub record IsBlockText (text : List ℕ) (block : Block) : Type 0 where
  pub pattern : List ℕ
  pub spelt : text ≡ encode_lower pattern
  pub some : 0 < length pattern
  pub repeats : Repeats pattern block
  pub shortest : (other : List ℕ) → 0 < length other → Repeats other block
      → length pattern ≤ length other
