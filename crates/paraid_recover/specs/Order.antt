-- In which order a mount is refused by the meta that stands.
use Rattle.std.specs.Prelude.{◌≡◌, ℕ, ◌<◌, ◌≤◌, nat_lt, if◌then◌else◌}
use Rattle.paraid_base.specs.Log.{worn_at}
use Rattle.paraid_base.specs.Regions.{disk_size}
use Rattle.paraid_rack.specs.Slots.{Slot}
use Rattle.paraid_record.specs.declared.meta.Meta.{Meta}
use Rattle.paraid_record.specs.Range.{meta_wear}
use Rattle.paraid_image.specs.Out.{IsDouble}
use Rattle.paraid_image.specs.Sides.{Batch}
use Rattle.paraid_recover.specs.declared.mount_fault.MountFault.{MountFault}
use Rattle.paraid_recover.specs.declared.mount_fault.MountFault.TheVariants.{NotFormatted, BadLog, BadMeta, Size, Power, Two as BothMissing, Worn, NoMemory}
use Rattle.paraid_recover.specs.Refusals.{AreMissing, IsLeastDisk, IsNone, is_asleep, is_small}

-- the size that is found of a disk, 0 where there is no such slot
abbrev pub size_found : ℕ → (ℕ → Slot) → ℕ → ℕ
size_found slots slot d = if nat_lt d slots then (slot d).size else 0

-- each disk has its slot and its size
abbrev pub AreSlotsLarge : ℕ → (ℕ → Slot) → Meta → Type 0
AreSlotsLarge slots slot m = IsNone (is_small slots slot m) m.setup.geometry.disks

-- each disk has its slot and its size, and none is parked that is to spin
abbrev pub AreAwake : ℕ → (ℕ → Slot) → Meta → Batch → Type 0
AreAwake slots slot m batch =
    AreSlotsLarge slots slot m × IsNone (is_asleep slot m batch) m.setup.geometry.disks

-- each disk has its slot and its size, none is parked that is to spin, and no two are missing
abbrev pub AreEnough : ℕ → (ℕ → Slot) → Meta → Batch → Type 0
AreEnough slots slot m batch = AreAwake slots slot m batch × (IsDouble (λ d. (slot d).power) m → ⊥)

-- The cause of a refusal is there, and none that is tested before it: a size, then the power, then
-- two that are missing, then wear. The other causes lie not in what stands.
abbrev pub IsRefusedBy : ℕ → (ℕ → Slot) → Meta → Batch → MountFault → Type 0
IsRefusedBy slots slot m batch NotFormatted = ⊥
IsRefusedBy slots slot m batch (BadLog disk) = ⊥
IsRefusedBy slots slot m batch (BadMeta disk) = ⊥
IsRefusedBy slots slot m batch (Size disk found needed) =
    IsLeastDisk (is_small slots slot m) m.setup.geometry.disks disk
    × (found ≡ size_found slots slot disk) × (needed ≡ disk_size m.setup.geometry)
IsRefusedBy slots slot m batch (Power disk) =
    AreSlotsLarge slots slot m × IsLeastDisk (is_asleep slot m batch) m.setup.geometry.disks disk
IsRefusedBy slots slot m batch (BothMissing two) =
    AreAwake slots slot m batch × AreMissing slot m two
IsRefusedBy slots slot m batch (Worn count) =
    AreEnough slots slot m batch × (count ≡ meta_wear m) × (worn_at ≤ count)
IsRefusedBy slots slot m batch NoMemory = ⊥

-- there is no cause
abbrev pub IsNotRefused : ℕ → (ℕ → Slot) → Meta → Batch → Type 0
IsNotRefused slots slot m batch = AreEnough slots slot m batch × (meta_wear m < worn_at)
