-- Bits in words of 64, the lowest first
use Rattle.std.specs.Prelude.{◌≡◌, ℕ, ◌/◌, ◌%◌, ◌<◌, ◌≤◌, ◌==◌, ◌&&◌, nat_le, nat_lt, Bool, true, false, List, slice_index}
use Rattle.std.specs.Int.{bit_at}

-- bit `d` of a number, whose value is 2 ^ d
abbrev pub bit_of : ℕ → ℕ → Bool
bit_of n d = bit_at n d == 1

-- bit `p` of a list of words
unfoldable pub bit_in : List ℕ → ℕ → Bool
bit_in words p = bit_of (slice_index words (p / 64)) (p % 64)

-- the bit at `p` is the first one set at or after `from`
pub record IsFirstBit (bit : ℕ → Bool) (from p : ℕ) : Type 0 where
  pub from_on : from ≤ p
  pub is : bit p ≡ true
  pub before : (k : ℕ) → from ≤ k → k < p → bit k ≡ false

-- no bit from `from` to `until - 1` is set
pub record AreClear (bit : ℕ → Bool) (from until : ℕ) : Type 0 where
  pub clear : (k : ℕ) → from ≤ k → k < until → bit k ≡ false

-- the bits of disks from `lo` to `hi - 1`, where each row has eight bits
abbrev pub on_disks : ℕ → ℕ → (ℕ → Bool) → ℕ → Bool
on_disks lo hi bit p = (nat_le lo (p % 8) && nat_lt (p % 8) hi) && bit p
