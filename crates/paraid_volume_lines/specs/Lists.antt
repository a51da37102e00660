-- The names and sizes of all volumes, as text.
use Rattle.std.specs.Prelude.{◌≡◌, ℕ, ◌+◌, ◌*◌, ◌≤◌, List, [], ◌++◌, length, slice_index_or, codes, decimal}
use Rattle.paraid_base.specs.declared.block.Block.{Block}
use Rattle.paraid_volume.specs.Lives.{HasName, IsNamedId}
use Rattle.paraid_volume.specs.Names.{IsName}
use Rattle.paraid_volume.specs.States.{ShowsVolumes, VolumeState}
use Rattle.paraid_volume.specs.Tables.{IsSameTable}

-- byte `k` of a name, 0 past its end
abbrev pub name_text : List ℕ → ℕ → ℕ
name_text name k = slice_index_or name k 0

-- A name and a size for each of the ids from 1 to `n` that has a name, in ascending order.
pub data Lists (s : VolumeState) : ℕ → List ℕ → Type 0 where
  none : Lists s 0 []
  skips : (n : ℕ) (text : List ℕ)
      → Lists s n text → (IsNamedId s (n + 1) → ⊥) → Lists s (n + 1) text
  tells : (n : ℕ) (text name : List ℕ)
      → Lists s n text → HasName s (n + 1) (name_text name) → IsName name
      → Lists s (n + 1) (text ++ (codes " " ++ (name ++ (codes " " ++ decimal (s.size (n + 1))))))

-- `list`, and the volumes of the first `n` ids as each device of `count` blocks with this table
-- shows them
pub record ListsFirst (count : ℕ) (table : ℕ → Block) (n : ℕ) (told : List ℕ) : Type 0 where
  pub text : List ℕ
  pub printed : told ≡ codes "list" ++ text
  pub short : length told ≤ 4 + 28 * n
  pub each : (content : ℕ → Block) (s : VolumeState)
      → IsSameTable table content → ShowsVolumes count content s → Lists s n text

-- `list` and all volumes
pub record TellsVolumes (count : ℕ) (table : ℕ → Block) (line : List ℕ) : Type 0 where
  pub text : List ℕ
  pub printed : line ≡ codes "list" ++ text ++ codes "\n"
  pub each : (content : ℕ → Block) (s : VolumeState)
      → IsSameTable table content → ShowsVolumes count content s → Lists s 31 text
