-- The indexes of stripes that no cell has
use Rattle.std.specs.Prelude.{ℕ, ◌-◌, ◌*◌, ◌≤◌}
use Rattle.paraid_base.specs.Soft.{number_at}

-- index `i` of stripe `s` is a pad: its number is past those of all cells
abbrev pub IsPad : ℕ → ℕ → ℕ → ℕ → ℕ → Type 0
IsPad n rows a s i = rows * (n - a) ≤ number_at a s i
