-- The letters of a name in memory.
use Rattle.std.specs.Prelude.{ℕ, ◌==◌, Bool, List, take}
use Rattle.std.specs.List.{position_or_len}
use Rattle.paraid_volume.specs.declared.name.Name.{Name}

-- a byte past the end of a name
abbrev pub is_zero : ℕ → Bool
is_zero c = c == 0

-- the letters and digits before the first zero
unfoldable pub word_of : Name → List ℕ
word_of name = take (position_or_len is_zero name.text) name.text
