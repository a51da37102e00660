-- How numbers and lists are spelled in a block
use Rattle.std.specs.Prelude.{◌≡◌, ℕ, ◌-◌, ◌^◌, ◌<◌, List, [], ◌∷◌, ◌++◌, length, replicate}
use Rattle.byteorder.specs.Endian.{big_bytes}

-- the number `x` in `width` bytes, the highest first
unfoldable pub big_endian : ℕ → ℕ → List ℕ
big_endian width x = big_bytes width x

-- the parts, one after the other
abbrev pub joined_parts : List (List ℕ) → List ℕ
joined_parts [] = []
joined_parts (part ∷ parts) = part ++ joined_parts parts

-- numbers of two bytes, one after the other
abbrev pub shorts : List ℕ → List ℕ
shorts [] = []
shorts (x ∷ xs) = big_endian 2 x ++ shorts xs

-- the list, and then zeros up to `size` members
unfoldable pub zero_filled : ℕ → List ℕ → List ℕ
zero_filled size xs = xs ++ replicate (size - length xs) 0

-- where a number of `width` bytes stands next among the bytes left, it was read, and the rest is
-- left
abbrev pub ReadsNumber : ℕ → List ℕ → List ℕ → ℕ → Type 0
ReadsNumber width old new value =
    (x : ℕ) (rest : List ℕ)
    → x < 256 ^ width → old ≡ big_endian width x ++ rest → (value ≡ x) × (new ≡ rest)
