-- What the slots of a rack in memory hold.
use Rattle.std.specs.Prelude.{◌≡◌, ◌≢◌, ℕ, ◌+◌, min, Bool, false, List, [], length, map, get_or}
use Rattle.paraid_base.specs.declared.block.Block.{Block}
use Rattle.paraid_rack.specs.declared.call.Power.{Power}
use Rattle.paraid_rack.specs.declared.call.Power.TheVariants.{Absent}
use Rattle.paraid_rack.specs.Slots.{Slot}
use Rattle.paraid_rack.specs.Trail.{Beginning}
use Rattle.paraid_memrack.specs.declared.slot.MemSlot.{MemSlot}
use Rattle.paraid_base.specs.Told.{counter_most}

-- a slot with its blocks
pub record FullSlot : Type 0 where
  pub power : Power
  pub blocks : List Block
  pub unsynced : Bool
  pub faults : ℕ

-- a slot with its blocks, as a value
abbrev pub full_slot : MemSlot → FullSlot
full_slot s =
    record { power = s.power; blocks = s.blocks.items; unsynced = s.unsynced; faults = s.faults }

-- a slot that does not exist
abbrev pub no_slot : FullSlot
no_slot = record { power = Absent; blocks = []; unsynced = false; faults = 0 }

-- the slot of this number, with its blocks
unfoldable pub full_slot_at : List MemSlot → ℕ → FullSlot
full_slot_at slots d = get_or (map full_slot slots) d no_slot

-- what is told of it
abbrev pub told_slot : FullSlot → Slot
told_slot v =
    record { power = v.power; size = length v.blocks; unsynced = v.unsynced; faults = v.faults }

-- what is told of the slot of this number
abbrev pub told_slot_at : List MemSlot → ℕ → Slot
told_slot_at slots d = told_slot (full_slot_at slots d)

-- after a failed call
abbrev pub after_failure : Bool → FullSlot → FullSlot
after_failure dirt v = record {
  power = Absent;
  blocks = [];
  unsynced = dirt;
  faults = min (v.faults + 1) counter_most;
}

-- a slot as it is at the start
abbrev pub full_slot_from : Beginning → FullSlot
full_slot_from b = record { power = b.power; blocks = b.blocks; unsynced = false; faults = 0 }

-- this slot has become so, and every other is as before
pub record SetsSlot (old new : List MemSlot) (disk : ℕ) (leaves : FullSlot) : Type 0 where
  pub same_length : length new ≡ length old
  pub here : full_slot_at new disk ≡ leaves
  pub others : (d : ℕ) → d ≢ disk → full_slot_at new d ≡ full_slot_at old d
