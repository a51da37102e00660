-- Numbers in bytes, the highest byte first
use Rattle.std.specs.Prelude.{ℕ, List}
use Rattle.byteorder.specs.Endian.{big_bytes, big_number}

-- the number `x` in `width` bytes
unfoldable pub number_bytes : ℕ → ℕ → List ℕ
number_bytes width x = big_bytes width x

-- the number that the first `width` bytes spell
unfoldable pub number : ℕ → List ℕ → ℕ
number width bytes = big_number width bytes
