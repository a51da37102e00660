-- Which dirty bits the write of a row leaves, whatever is told of the disks.
use Rattle.std.specs.Prelude.{◌≡◌, ℕ, ◌==◌, ◌&&◌, ◌||◌, Bool, false, not, [], ◌∷◌, get_or, if◌then◌else◌}
use Rattle.paraid_base.specs.declared.pairs.Pairs.{Pairs}
use Rattle.paraid_base.specs.Cells.{home_disk, home_row, parity_disk}
use Rattle.paraid_base.specs.History.{Entry}
use Rattle.paraid_base.specs.Pairs.{pairs_of}
use Rattle.paraid_plan.specs.RowWrites.{names_row, pairs_before}
use Rattle.paraid_plan.specs.WrittenBits.{bit_after_write}
use Rattle.paraid_record.specs.declared.meta.Meta.{Meta}

-- The bits of these cells are those after a write of them, and each other bit is as it was.
abbrev pub TurnsBits : Meta → (ℕ → ℕ → Bool) → (ℕ → ℕ → Bool) → (ℕ → ℕ → Bool) → Type 0
TurnsBits m before after turned = (q e : ℕ)
    → after q e ≡ (if turned q e then bit_after_write m e (before q e) else before q e)

-- whether the block of one of the pairs lies in row `r` on disk `e`
unfoldable pub names_cell : ℕ → Entry → ℕ → ℕ → Bool
names_cell n [] r e = false
names_cell n (w ∷ ws) r e = (home_row n w.0 == r && e == home_disk n w.0) || names_cell n ws r e

-- the same, or that disk holds the row's parity
unfoldable pub turns_cell_of : ℕ → Entry → ℕ → ℕ → Bool
turns_cell_of n ws r e = names_cell n ws r e || e == parity_disk n r

-- whether the cell of row `q` and disk `e` is written with the row of one pair, where no pair
-- before it lies in that row
unfoldable pub turns_in_new_row : ℕ → Pairs → ℕ → ℕ → ℕ → Bool
turns_in_new_row n pairs at q e =
    let r = home_row n (get_or pairs.blocks at 0) in
    not (names_row n (pairs_before pairs at) r) && (q == r && turns_cell_of n (pairs_of pairs) r e)
