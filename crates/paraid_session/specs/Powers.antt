-- How the slots of an array are powered while it serves, and what is synced of them.
use Rattle.std.specs.Prelude.{◌≡◌, ◌≢◌, ℕ, ◌<◌, ◌≤◌, true, false, Some}
use Rattle.paraid_base.specs.Regions.{disk_size}
use Rattle.paraid_base.specs.States.{gone_out}
use Rattle.paraid_rack.specs.Disks.{is_present}
use Rattle.paraid_rack.specs.Slots.{Slot}
use Rattle.paraid_record.specs.declared.meta.Meta.{Meta}
use Rattle.paraid_image.specs.Out.{named_out}
use Rattle.paraid_image.specs.Power.{power_by_gear}

-- The slots fit the meta: each disk of the array that it does not name out is powered by its gear
-- and phase, so those that the gear does not need are parked; and it is large enough.
pub record FitsSlots (slot : ℕ → Slot) (m : Meta) : Type 0 where
  pub powers : (d : ℕ) → d < m.setup.geometry.disks
      → named_out m.out ≢ Some d → (slot d).power ≡ power_by_gear m.gear m.phase d
  pub large : (d : ℕ) → d < m.setup.geometry.disks
      → named_out m.out ≢ Some d → disk_size m.setup.geometry ≤ (slot d).size

-- each disk of the array that is there and not gone has nothing unsynced
abbrev pub AreSlotsSynced : Meta → (ℕ → Slot) → Type 0
AreSlotsSynced m slot = (d : ℕ) → d < m.setup.geometry.disks
    → gone_out m.out ≢ Some d → is_present (slot d).power ≡ true → (slot d).unsynced ≡ false
