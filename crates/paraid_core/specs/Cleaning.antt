-- Which reads clean a cell.
use Rattle.std.specs.Prelude.{◌≡◌, ℕ, ◌&&◌, not, nat_le, nat_lt, Bool, true, false, List, if◌then◌else◌}
use Rattle.paraid_base.specs.Cells.{home_disk, home_row}
use Rattle.paraid_base.specs.States.{has_out}
use Rattle.paraid_dirty.specs.Table.{is_dirty}
use Rattle.paraid_image.specs.Spot.{rising_to}
use Rattle.paraid_image.specs.Sides.{Batch}
use Rattle.paraid_record.specs.declared.meta.Meta.{Meta}
use Rattle.paraid_core.specs.Room.{commits_first}
use Rattle.paraid_record.specs.Modes.{is_access}

-- In access mode, in a shift up with no disk out, the cell is dirty and on a disk that comes up: a
-- read of it cleans it.
abbrev pub is_cleaned : Meta → List (List Bool) → ℕ → ℕ → Bool
is_cleaned m table r d =
    is_access m.setup.mode && not
    (has_out m.out) && nat_le m.gear d && nat_lt d (rising_to m.phase) && is_dirty table r d

-- how many targets a read of the cell stages: the cell in its hard place, and the map on both log
-- disks
abbrev pub cleaning : Meta → List (List Bool) → ℕ → ℕ → ℕ
cleaning m table r d = if is_cleaned m table r d then 3 else 0

-- a read of this block commits first: it cleans the cell, and more is staged than leaves room for
-- that
abbrev pub read_commits_first : Meta → List (List Bool) → Batch → ℕ → Bool
read_commits_first m table batch b =
    commits_first batch
    (cleaning m table (home_row m.setup.geometry.disks b) (home_disk m.setup.geometry.disks b))

-- A read of the cell of row `r` and disk `d` cleans it where it does so by this meta, and leaves
-- all other bits.
pub record CleansCell (m : Meta) (table table_then : List (List Bool)) (r d : ℕ) : Type 0 where
  pub cleaned : is_cleaned m table r d ≡ true → is_dirty table_then r d ≡ false
  pub kept : is_cleaned m table r d ≡ false → is_dirty table_then r d ≡ is_dirty table r d
  pub others : (q e : ℕ) → (q ≡ r → e ≡ d → ⊥) → is_dirty table_then q e ≡ is_dirty table q e
