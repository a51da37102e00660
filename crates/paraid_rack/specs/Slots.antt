-- What is always told of a slot.
use Rattle.std.specs.Prelude.{◌≡◌, ◌≢◌, ◌≤◌, ℕ, Bool, true, false}
use Rattle.paraid_base.specs.Told.{HasRisen}
use Rattle.paraid_rack.specs.declared.call.Power.{Power}
use Rattle.paraid_rack.specs.declared.call.Power.TheVariants.{Parked, Absent}
use Rattle.paraid_rack.specs.Disks.{Disks}

-- its power, its size in blocks, whether a write of it was not synced, and how often it has failed
pub record Slot : Type 0 where
  pub power : Power
  pub size : ℕ
  pub unsynced : Bool
  pub faults : ℕ

-- what is told of a slot that does not exist, or that never had a disk
abbrev pub vacant_slot : Slot
vacant_slot = record { power = Absent; size = 0; unsynced = false; faults = 0 }

-- A call on one slot. Done, it leaves the slot as `leaves`. Failed, it leaves it absent, of size 0,
-- its count risen, and unsynced as `dirt` says. No other slot changes.
pub record ChangesOneSlot
    (old new : ℕ → Slot) (disk : ℕ) (leaves : Slot) (dirt : Bool) (ok : Bool) : Type 0 where
  pub others : (d : ℕ) → d ≢ disk → new d ≡ old d
  pub done : ok ≡ true → new disk ≡ leaves
  pub absent : ok ≡ false → (new disk).power ≡ Absent
  pub empty : ok ≡ false → (new disk).size ≡ 0
  pub unsynced : ok ≡ false → (new disk).unsynced ≡ dirt
  pub risen : ok ≡ false → HasRisen (old disk).faults (new disk).faults
  pub later : ok ≡ false → (old disk).faults ≤ (new disk).faults

-- what holds of the slots of every rack
pub record AreSlots (count : ℕ) (slot : ℕ → Slot) : Type 0 where
  pub few : count ≤ 8
  pub missing : (d : ℕ) → count ≤ d → (slot d).power ≡ Absent
  pub absent : (d : ℕ) → (slot d).power ≡ Absent → (slot d).size ≡ 0
  pub parked : (d : ℕ) → (slot d).power ≡ Parked → (slot d).unsynced ≡ false

-- what is told of the calls agrees with what is always told
pub record Agrees (s : Disks) (slot : ℕ → Slot) : Type 0 where
  pub power : (d : ℕ) → s.power d ≡ (slot d).power
  pub size : (d : ℕ) → s.size d ≡ (slot d).size
  pub loose : (d p : ℕ) → s.loose d p ≡ true → (slot d).unsynced ≡ true

-- no slot has changed
abbrev pub AreSameSlots : (ℕ → Slot) → (ℕ → Slot) → Type 0
AreSameSlots old new = (d : ℕ) → new d ≡ old d
