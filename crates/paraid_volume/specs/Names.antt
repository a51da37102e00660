-- Names of volumes
use Rattle.std.specs.Prelude.{◌≡◌, ℕ, ◌-◌, ◌<◌, ◌≤◌, ◌&&◌, ◌||◌, nat_le, Bool, true, List, length, slice_index}

-- a letter in lower case or a digit
abbrev pub is_letter : ℕ → Bool
is_letter c = (nat_le 97 c && nat_le c 122) || (nat_le 48 c && nat_le c 57)

-- 1 to 16 letters and digits
pub record IsName (bytes : List ℕ) : Type 0 where
  pub some : 1 ≤ length bytes
  pub few : length bytes ≤ 16
  pub letters : (k : ℕ) → k < length bytes → is_letter (slice_index bytes k) ≡ true

-- byte `k` of 16: a letter or digit that follows no zero, or zero
pub record IsFieldAt (byte : ℕ → ℕ) (k : ℕ) : Type 0 where
  pub letter : 0 < byte k → is_letter (byte k) ≡ true
  pub follows : 0 < byte k → 0 < k → 0 < byte (k - 1)

-- of 16 bytes: letters and digits, and then zeros
abbrev pub IsField : (ℕ → ℕ) → Type 0
IsField byte = (k : ℕ) → k < 16 → IsFieldAt byte k
