-- When calls are refused
use Rattle.std.specs.Prelude.{◌≡◌, ℕ, ◌*◌, ◌<◌, ◌≤◌, Option, Some, None, Result, Ok, Err}
use Rattle.paraid_base.specs.declared.block.Block.{Block}
use Rattle.paraid_base.specs.declared.fault.Halt.{Halt}
use Rattle.paraid_volume.specs.declared.fault.VolFault.{VolFault}
use Rattle.paraid_volume.specs.declared.fault.VolFault.TheVariants.{Halt as VolHalt, Small, NotVolumes, Already, NoVolume, NoBlock, Exists, NoExtents, Names, Space}
use Rattle.paraid_volume.specs.declared.name.Name.{Name}
use Rattle.paraid_volume.specs.NameValues.{IsNameOf}
use Rattle.paraid_volume.specs.Tables.{IsLiveId, extent_count, extent_size, extents_owned, owner_in}

-- the halt in a result
abbrev pub vol_halt_in : {A : Type 0} → Result A VolFault → Option Halt
vol_halt_in (Ok value) = None
vol_halt_in (Err (VolHalt halt)) = Some halt
vol_halt_in (Err fault) = None

-- why block `v` of volume `id` was not read or written
abbrev pub IsPlaceFault : ℕ → (ℕ → Block) → Option Halt → ℕ → ℕ → VolFault → Type 0
IsPlaceFault count content halted id v (VolHalt halt) = halted ≡ Some halt
IsPlaceFault count content halted id v (NoVolume i) = (i ≡ id) × (IsLiveId content id → ⊥)
IsPlaceFault count content halted id v (NoBlock b) = (b ≡ v) × IsLiveId content id
    × (extent_size count * extents_owned (owner_in content) id (extent_count count) ≤ v)
IsPlaceFault count content halted id v fault = ⊥

-- why a device with volumes was not taken
abbrev pub IsAdoptFault : ℕ → Option Halt → Type 0 → VolFault → Type 0
IsAdoptFault count halted no_table (Small blocks) = (blocks ≡ count) × (count < 7)
IsAdoptFault count halted no_table (VolHalt halt) = (7 ≤ count) × (halted ≡ Some halt)
IsAdoptFault count halted no_table NotVolumes = (7 ≤ count) × (halted ≡ None) × no_table
IsAdoptFault count halted no_table fault = ⊥

-- why a device was not taken for volumes
abbrev pub IsInitFault : ℕ → Option Halt → Type 0 → VolFault → Type 0
IsInitFault count halted table (Small blocks) = (blocks ≡ count) × (count < 7)
IsInitFault count halted table (VolHalt halt) = (7 ≤ count) × (halted ≡ Some halt)
IsInitFault count halted table Already = (7 ≤ count) × (halted ≡ None) × table
IsInitFault count halted table fault = ⊥

-- the halt of the device and no other fault
abbrev pub IsHalt : Option Halt → VolFault → Type 0
IsHalt halted (VolHalt halt) = halted ≡ Some halt
IsHalt halted fault = ⊥

-- why there is no such volume to delete
abbrev pub IsIdFault : (ℕ → Block) → Option Halt → ℕ → VolFault → Type 0
IsIdFault content halted id (VolHalt halt) = halted ≡ Some halt
IsIdFault content halted id (NoVolume i) = (i ≡ id) × (IsLiveId content id → ⊥)
IsIdFault content halted id fault = ⊥

-- no live id has this name
abbrev pub IsNew : (ℕ → Block) → Name → Type 0
IsNew content name = (i : ℕ) → IsLiveId content i → IsNameOf content i name → ⊥

-- there is such a block of volume `id`
abbrev pub IsServedBlock : ℕ → (ℕ → Block) → ℕ → ℕ → Type 0
IsServedBlock count content id v = IsLiveId content id
    × (v < extent_size count * extents_owned (owner_in content) id (extent_count count))

-- the least id that has no name
pub record IsLeastFree (content : ℕ → Block) (id : ℕ) : Type 0 where
  pub low : 1 ≤ id
  pub high : id ≤ 31
  pub free : IsLiveId content id → ⊥
  pub least : (i : ℕ) → 1 ≤ i → i < id → IsLiveId content i

-- A volume of this name and so many extents can be made: no volume has the name, it is to have some
-- extents, and so many are free.
pub record CanCreate (count : ℕ) (content : ℕ → Block) (name : Name) (extents : ℕ) : Type 0 where
  pub fresh : IsNew content name
  pub some : 0 < extents
  pub room : extents ≤ extents_owned (owner_in content) 0 (extent_count count)

-- why there is no new volume of this name and so many extents
abbrev pub IsCreateFault : ℕ → (ℕ → Block) → Option Halt → Name → ℕ → VolFault → Type 0
IsCreateFault count content halted name extents (VolHalt halt) = halted ≡ Some halt
IsCreateFault count content halted name extents (Exists i) =
    IsLiveId content i × IsNameOf content i name
IsCreateFault count content halted name extents NoExtents = IsNew content name × (extents ≡ 0)
IsCreateFault count content halted name extents Names =
    IsNew content name × (0 < extents) × ((i : ℕ) → 1 ≤ i → i ≤ 31 → IsLiveId content i)
IsCreateFault count content halted name extents (Space f) =
    IsNew content name × ((i : ℕ) × IsLeastFree content i)
    × (f ≡ extents_owned (owner_in content) 0 (extent_count count)) × (f < extents)
IsCreateFault count content halted name extents fault = ⊥
