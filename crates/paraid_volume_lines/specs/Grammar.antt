-- What a line about volumes looks like.
use Rattle.std.specs.Prelude.{◌≡◌, ℕ, List, [], ◌++◌, codes}
use Rattle.paraid_base.specs.declared.block.Block.{Block}
use Rattle.paraid_trace.specs.Grammar.{IsHexOf, IsNumber}
use Rattle.paraid_volume.specs.Names.{IsName}

-- what a line asks for; names are 1 to 16 letters and digits
pub data VolLine : Type 0 where
  init : VolLine
  create : (name : List ℕ) (extents : ℕ) → VolLine
  delete : (name : List ℕ) → VolLine
  read : (name : List ℕ) (block : ℕ) → VolLine
  write : (name : List ℕ) (block : ℕ) (bytes : Block) → VolLine
  flush : VolLine
  list : VolLine
  bad : VolLine

-- a word, a name, and a rest
pub record IsNamedLine (word line name rest : List ℕ) : Type 0 where
  pub is_name : IsName name
  pub printed : line ≡ word ++ (codes " " ++ (name ++ rest))

-- a word, a name, and a number
pub record IsNumberedLine (word line name : List ℕ) (n : ℕ) : Type 0 where
  pub digits : List ℕ
  pub number : IsNumber digits n
  pub named : IsNamedLine word line name (codes " " ++ digits)

-- `w`, a name, a number, and the digits of a block
pub record IsWriteLine (line name : List ℕ) (n : ℕ) (bytes : Block) : Type 0 where
  pub digits : List ℕ
  pub hex : List ℕ
  pub number : IsNumber digits n
  pub is_hex : IsHexOf hex bytes
  pub named : IsNamedLine (codes "w") line name (codes " " ++ (digits ++ (codes " " ++ hex)))

-- The line is printed so. No line is printed so for `bad`: it stands for all others.
abbrev pub IsVolLine : List ℕ → VolLine → Type 0
IsVolLine line init = line ≡ codes "init"
IsVolLine line (create name extents) = IsNumberedLine (codes "create") line name extents
IsVolLine line (delete name) = IsNamedLine (codes "delete") line name []
IsVolLine line (read name block) = IsNumberedLine (codes "r") line name block
IsVolLine line (write name block bytes) = IsWriteLine line name block bytes
IsVolLine line flush = line ≡ codes "f"
IsVolLine line list = line ≡ codes "list"
IsVolLine line bad = ⊥

-- The line asks for a task that the grammar prints as this line, or for none.
pub data AsksVolumes (line : List ℕ) : VolLine → Type 0 where
  asks : (asked : VolLine) → IsVolLine line asked → AsksVolumes line asked
  no_task : ((asked : VolLine) → IsVolLine line asked → ⊥) → AsksVolumes line bad
