-- Volume state, and what a device shows of it
use Rattle.std.specs.Prelude.{◌≡◌, ℕ, ◌+◌, ◌-◌, ◌*◌, take, ◌/◌, ◌%◌, ◌<◌, ◌≤◌, ◌==◌, ◌&&◌, ◌++◌, ◌∷◌, [], if◌then◌else◌}
use Rattle.paraid_base.specs.declared.block.Block.{Block}
use Rattle.paraid_base.specs.History.{Entry, History, after_all}
use Rattle.paraid_base.specs.Xor.{zero_block}
use Rattle.paraid_volume.specs.Tables.{IsExtent, IsLiveId, IsVolumeTable, extent_count, extent_size, name_in, extents_owned, owner_in}

-- The name of each id, 16 bytes with zeros past its end and all zeros where the id is free; how
-- many blocks a volume has; its blocks; and how many extents are free.
pub record VolumeState : Type 0 where
  pub name : ℕ → ℕ → ℕ
  pub size : ℕ → ℕ
  pub block : ℕ → ℕ → Block
  pub free : ℕ

-- block `v` of volume `id` lies at `place`
pub record IsPlace (count : ℕ) (content : ℕ → Block) (id v place : ℕ) : Type 0 where
  pub live : IsLiveId content id
  pub extent : ℕ
  pub below : extent < extent_count count
  pub number : IsExtent (owner_in content) id (v / extent_size count) extent
  pub is : place ≡ 6 + extent * extent_size count + v % extent_size count

-- a device of `count` blocks with these contents holds volumes in this state
pub record ShowsVolumes (count : ℕ) (content : ℕ → Block) (s : VolumeState) : Type 0 where
  pub table : IsVolumeTable count content
  pub name : (id k : ℕ) → 1 ≤ id → id ≤ 31 → k < 16 → s.name id k ≡ name_in content id k
  pub size : (id : ℕ) → 1 ≤ id → id ≤ 31
      → s.size id ≡ extent_size count * extents_owned (owner_in content) id (extent_count count)
  pub block : (id v place : ℕ) → IsPlace count content id v place → s.block id v ≡ content place
  pub free : s.free ≡ extents_owned (owner_in content) 0 (extent_count count)

-- block `v` of volume `id` has these bytes now
abbrev pub with_block : VolumeState → ℕ → ℕ → Block → VolumeState
with_block s id v bytes =
    record s { block = λ i w. if i == id && w == v then bytes else s.block i w }

-- volume `id` is gone, and its extents, of `x` blocks each, are free
abbrev pub without_volume : ℕ → VolumeState → ℕ → VolumeState
without_volume x s id = record s {
  name = λ i k. if i == id then 0 else s.name i k;
  size = λ i. if i == id then 0 else s.size i;
  free = s.free + s.size id / x;
}

-- volume `id` is new, with this name and `n` extents of `x` blocks of zeros, which are no longer
-- free
abbrev pub with_volume : ℕ → VolumeState → ℕ → (ℕ → ℕ) → ℕ → VolumeState
with_volume x s id text n = record {
  name = λ i k. if i == id then text k else s.name i k;
  size = λ i. if i == id then x * n else s.size i;
  block = λ i v. if i == id then zero_block else s.block i v;
  free = s.free - n;
}

-- no volume, and each extent is free
abbrev pub no_volumes : ℕ → VolumeState
no_volumes count =
    record { name = λ i k. 0; size = λ i. 0; block = λ i v. zero_block; free = extent_count count }

-- One entry more is stood for, and with it the device shows this state.
pub record Adds
    (holds : History → Type 0) (count : ℕ) (h : History) (s : VolumeState) : Type 0 where
  pub entry : Entry
  pub stands : holds (h ++ entry ∷ [])
  pub shows : ShowsVolumes count (after_all (h ++ entry ∷ [])) s

-- One entry more is stood for, and with it the device holds no volume.
pub record AddsNoVolume (holds : History → Type 0) (count : ℕ) (h : History) : Type 0 where
  pub entry : Entry
  pub stands : holds (h ++ entry ∷ [])
  pub shows : ShowsVolumes count (after_all (h ++ entry ∷ [])) (no_volumes count)

-- So many writes more are stood for, and one entry more. With each of the former the device shows
-- the state as it was, and with the entry this one.
pub record Makes
    (holds : History → Type 0) (count : ℕ) (h : History) (was s : VolumeState) : Type 0 where
  pub more : History
  pub entry : Entry
  pub stands : holds ((h ++ more) ++ entry ∷ [])
  pub during : (k : ℕ) → ShowsVolumes count (after_all (h ++ take k more)) was
  pub shows : ShowsVolumes count (after_all ((h ++ more) ++ entry ∷ [])) s
