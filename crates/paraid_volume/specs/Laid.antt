-- A write of the blocks of a table
use Rattle.std.proofs.Common.{zero, suc}
use Rattle.std.specs.Prelude.{◌≡◌, ℕ, ◌+◌, ◌<◌, ◌≤◌, ◌≢◌, ◌++◌, ◌∷◌, [], take, ◌==◌, ◌&&◌, nat_lt, if◌then◌else◌, slice_index, All}
use Rattle.paraid_base.specs.declared.block.Block.{Block}
use Rattle.paraid_base.specs.History.{Entry, History, after_all, last_of}
use Rattle.paraid_base.specs.Xor.{zero_block}
use Rattle.paraid_volume.specs.declared.name.Name.{Name}
use Rattle.paraid_volume.specs.NameValues.{IsNameOf}
use Rattle.paraid_volume.specs.Tables.{name_in, extents_owned, owner_in}

-- the entry makes one table of another, and changes nothing else
pub record IsLaid (old new : ℕ → Block) (entry : Entry) : Type 0 where
  pub here : (k : ℕ) → k < 6 → last_of k (old k) entry ≡ new k
  pub rest : (k : ℕ) (bytes : Block) → 6 ≤ k → last_of k bytes entry ≡ bytes
  pub below : All (λ (pair : ℕ × Block). pair.0 < 6) entry

-- The pairs are block 1 and each later block below `n` whose bytes are others than before, in
-- ascending order, with its new bytes.
pub data AreChanges (old new : ℕ → Block) : ℕ → Entry → Type 0 where
  names : AreChanges old new 2 ((1, new 1) ∷ [])
  same : (n : ℕ) (entry : Entry) → AreChanges old new n entry
      → (old n).bytes ≡ (new n).bytes → AreChanges old new (n + 1) entry
  other : (n : ℕ) (entry : Entry) → AreChanges old new n entry
      → ((old n).bytes ≡ (new n).bytes → ⊥) → AreChanges old new (n + 1) (entry ++ (n, new n) ∷ [])

-- the first `n` blocks with their bytes
abbrev pub table_pairs : (ℕ → Block) → ℕ → Entry
table_pairs content zero = []
table_pairs content (suc n) = table_pairs content n ++ (n, content n) ∷ []

-- owners after each extent of `id` was made free
abbrev pub owner_without : (ℕ → ℕ) → ℕ → ℕ → ℕ → ℕ
owner_without owner id extents e = if nat_lt e extents && owner e == id then 0 else owner e

-- owners after `id` was given the first `count` free extents
abbrev pub owner_with : (ℕ → ℕ) → ℕ → ℕ → ℕ → ℕ → ℕ
owner_with owner id count extents e =
    if nat_lt e extents && (owner e == 0 && nat_lt (extents_owned owner 0 e) count)
    then id else owner e

-- one table is the other without `id`
pub record IsWithout (id extents : ℕ) (old new : ℕ → Block) : Type 0 where
  pub head : new 0 ≡ old 0
  pub name : (k : ℕ) → k < 16 → name_in new id k ≡ 0
  pub names : (i k : ℕ) → 1 ≤ i → i ≢ id → k < 16 → name_in new i k ≡ name_in old i k
  pub rest : (k : ℕ) → 496 ≤ k → slice_index (new 1).bytes k ≡ slice_index (old 1).bytes k
  pub owners : (e : ℕ) → e < 2048 → owner_in new e ≡ owner_without (owner_in old) id extents e

-- one table is the other with `id`, of this name and the first `count` free extents
pub record IsWith (id : ℕ) (text : Name) (count extents : ℕ) (old new : ℕ → Block) : Type 0 where
  pub head : new 0 ≡ old 0
  pub name : IsNameOf new id text
  pub names : (i k : ℕ) → 1 ≤ i → i ≢ id → k < 16 → name_in new i k ≡ name_in old i k
  pub rest : (k : ℕ) → 496 ≤ k → slice_index (new 1).bytes k ≡ slice_index (old 1).bytes k
  pub owners : (e : ℕ) → e < 2048 → owner_in new e ≡ owner_with (owner_in old) id count extents e

-- Zeros were written to the blocks inside, and then the blocks of a table in one entry.
pub record MakesTable (holds : History → Type 0)
    (h : History) (inside : ℕ → Type 0) (old new : ℕ → Block) : Type 0 where
  pub more : History
  pub entry : Entry
  pub stands : holds ((h ++ more) ++ entry ∷ [])
  pub rest : (k b : ℕ) → (inside b → ⊥) → after_all (h ++ take k more) b ≡ after_all h b
  pub zeros : (b : ℕ) → inside b → after_all (h ++ more) b ≡ zero_block
  pub laid : IsLaid old new entry
