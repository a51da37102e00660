-- One cell of a row is written, which has no copy.
use Rattle.std.specs.Prelude.{◌≡◌, ◌≢◌, ℕ, ◌<◌, List, Option, Some, None, get_or}
use Rattle.paraid_record.specs.declared.meta.Meta.{Meta}

-- Of the cells of a row the one on disk `d` alone is given new bytes, by this pair, and neither it
-- nor the parity on disk `p` has a copy.
pub record IsWrittenAlone (m : Meta) (given : List (Option ℕ)) (p d at : ℕ) : Type 0 where
  pub disk : d < m.setup.geometry.disks
  pub pair : get_or given d None ≡ Some at
  pub others : (e : ℕ) → e < m.setup.geometry.disks → e ≢ d → get_or given e None ≡ None
  pub cell : d < m.gear
  pub parity : p < m.gear
  pub unfilled : m.fill ≡ 0
