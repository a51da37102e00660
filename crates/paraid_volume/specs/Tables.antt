-- Table spelling: what six blocks say of the volumes of a device
use Rattle.std.specs.Prelude.{◌≡◌, ◌≢◌, ℕ, ◌+◌, ◌-◌, ◌*◌, ◌/◌, ◌%◌, ◌<◌, ◌≤◌, ◌==◌, ◌++◌, ◌∷◌, [], List, slice_index, replicate, if◌then◌else◌}
use Rattle.std.specs.Int.{to_be_bytes, w32}
use Rattle.paraid_base.specs.declared.block.Block.{Block}
use Rattle.paraid_base.specs.Sums.{sum_before}
use Rattle.paraid_volume.specs.Names.{IsField}

-- how many blocks an extent has, on a device of `count` blocks
abbrev pub extent_size : ℕ → ℕ
extent_size count = (count - 7) / 2048 + 1

-- how many extents there are
abbrev pub extent_count : ℕ → ℕ
extent_count count = (count - 6) / extent_size count

-- `PARAIDVT`, 1, how many blocks an extent has, how many extents there are, and zeros
unfoldable pub head_bytes : ℕ → ℕ → List ℕ
head_bytes size extents = (80 ∷ 65 ∷ 82 ∷ 65 ∷ 73 ∷ 68 ∷ 86 ∷ 84 ∷ 0 ∷ 1 ∷ [])
    ++ (to_be_bytes w32 size ++ (to_be_bytes w32 extents ++ replicate 494 0))

-- byte `k` of the name of `id`, 0 past its end
abbrev pub name_in : (ℕ → Block) → ℕ → ℕ → ℕ
name_in content id k = slice_index (content 1).bytes (16 * (id - 1) + k)

-- the owner of extent `e`, 0 where it is free
abbrev pub owner_in : (ℕ → Block) → ℕ → ℕ
owner_in content e = slice_index (content (2 + e / 512)).bytes (e % 512)

-- how many of the first `n` extents this is the owner of
abbrev pub extents_owned : (ℕ → ℕ) → ℕ → ℕ → ℕ
extents_owned owner id n = sum_before (λ e. if owner e == id then 1 else 0) n

-- an id with a name
pub record IsLiveId (content : ℕ → Block) (id : ℕ) : Type 0 where
  pub low : 1 ≤ id
  pub high : id ≤ 31
  pub named : 0 < name_in content id 0

-- block 1: 16 bytes for each id, the name followed by zeros, and 16 zeros; no name twice
pub record AreNames (content : ℕ → Block) : Type 0 where
  pub fields : (id : ℕ) → 1 ≤ id → id ≤ 31 → IsField (name_in content id)
  pub rest : (k : ℕ) → 496 ≤ k → k < 512 → slice_index (content 1).bytes k ≡ 0
  pub distinct : (j i : ℕ) → i < j → IsLiveId content i → IsLiveId content j
      → ((k : ℕ) → k < 16 → name_in content i k ≡ name_in content j k) → ⊥

-- blocks 2 to 5: one byte for each extent, a live id or 0; zeros past them; each live id is there
pub record AreOwners (extents : ℕ) (content : ℕ → Block) : Type 0 where
  pub live : (e : ℕ) → e < extents → owner_in content e ≢ 0 → IsLiveId content (owner_in content e)
  pub rest : (e : ℕ) → extents ≤ e → e < 2048 → owner_in content e ≡ 0
  pub some : (id : ℕ) → IsLiveId content id → 0 < extents_owned (owner_in content) id extents

-- the first six blocks are a table for a device of `count` blocks
pub record IsVolumeTable (count : ℕ) (content : ℕ → Block) : Type 0 where
  pub head : (content 0).bytes ≡ head_bytes (extent_size count) (extent_count count)
  pub names : AreNames content
  pub owners : AreOwners (extent_count count) content

-- these contents have the same table
abbrev pub IsSameTable : (ℕ → Block) → (ℕ → Block) → Type 0
IsSameTable a b = (k : ℕ) → k < 6 → a k ≡ b k

-- extent `e` is number `k` of those of `id`, in ascending order
pub record IsExtent (owner : ℕ → ℕ) (id k e : ℕ) : Type 0 where
  pub is : owner e ≡ id
  pub number : extents_owned owner id e ≡ k
