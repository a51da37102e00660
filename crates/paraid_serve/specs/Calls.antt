-- What an array owes its caller over any rack.
use Rattle.std.specs.Prelude.{◌≡◌, ℕ, ◌<◌, false, Option, Some}
use Rattle.paraid_rack.specs.Disks.{is_present}
use Rattle.paraid_rack.specs.Slots.{Slot}
use Rattle.paraid_record.specs.declared.meta.Setup.{Setup}

-- at most one of the array's disks is absent
abbrev pub IsNotDouble : Setup → (ℕ → Slot) → Type 0
IsNotDouble setup slot = (d e : ℕ) → d < setup.geometry.disks → e < setup.geometry.disks
    → is_present (slot d).power ≡ false → is_present (slot e).power ≡ false → d ≡ e

-- a disk of the array that is absent is the one that is out, so at most one is absent or out
abbrev pub IsAbsentOut : Setup → Option ℕ → (ℕ → Slot) → Type 0
IsAbsentOut setup down slot = (d : ℕ)
    → d < setup.geometry.disks → is_present (slot d).power ≡ false → down ≡ Some d
