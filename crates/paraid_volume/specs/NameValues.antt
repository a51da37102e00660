-- Names in memory
use Rattle.std.specs.Prelude.{◌≡◌, ℕ, ◌<◌, slice_index}
use Rattle.paraid_base.specs.declared.block.Block.{Block}
use Rattle.paraid_volume.specs.declared.name.Name.{Name}
use Rattle.paraid_volume.specs.Tables.{name_in}

-- the name of `id`
abbrev pub IsNameOf : (ℕ → Block) → ℕ → Name → Type 0
IsNameOf content id name = (k : ℕ) → k < 16 → slice_index name.text k ≡ name_in content id k

-- byte `k` of a name, 0 past its end
abbrev pub letter_of : Name → ℕ → ℕ
letter_of name k = slice_index name.text k
