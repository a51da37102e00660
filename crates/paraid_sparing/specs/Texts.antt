-- The line of the spares that are left.
use Rattle.std.specs.Prelude.{ℕ, List, [], ◌++◌, codes, decimal}
use Rattle.std.proofs.Common.{zero, suc}

-- a space and the spin-ups of each of the first slots
abbrev pub slot_words : (ℕ → ℕ) → ℕ → List ℕ
slot_words spins zero = []
slot_words spins (suc d) = slot_words spins d ++ (codes " " ++ decimal (spins d))

-- the line of the spares that are left, and of the spin-ups by slot
abbrev pub spares_line : ℕ → (ℕ → ℕ) → ℕ → List ℕ
spares_line left spins disks =
    codes "spares " ++ decimal left ++ codes " slots" ++ slot_words spins disks ++ codes "\n"
