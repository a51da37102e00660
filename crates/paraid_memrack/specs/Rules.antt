-- What decides which calls of a rack in memory fail, and what it tells.
use Rattle.std.specs.Prelude.{◌≡◌, ℕ, Bool, false, List, [], length, map, replicate, Option}
use Rattle.paraid_rack.specs.declared.call.Call.{Call}
use Rattle.paraid_rack.specs.Slots.{Slot}
use Rattle.paraid_rack.specs.Trail.{Beginning, Trail, beginning}
use Rattle.paraid_memrack.specs.declared.plan.Planned.{Planned}
use Rattle.paraid_memrack.specs.declared.rack.MemRack.{MemRack}
use Rattle.paraid_memrack.specs.CallPlan.{has_room_for_call, is_planned, listed_after}
use Rattle.paraid_memrack.specs.Slots.{told_slot_at}
use Rattle.paraid_memrack.specs.Tells.{told_by, told_after, beginning_of, no_beginning}

-- the plan, how many calls are listed at most, and how many blocks an attach may have
pub record Rules : Type 0 where
  pub plan : List Planned
  pub most : ℕ
  pub room : ℕ

-- the plan, the most calls and the room of a rack
abbrev pub rules_of : MemRack → Rules
rules_of m = record { plan = m.log.plan.items; most = m.log.most; room = m.room }

-- the calls that are listed
abbrev pub listed_calls : MemRack → List Call
listed_calls m = m.log.calls.items

-- its number of slots
abbrev pub rack_slot_count : MemRack → ℕ
rack_slot_count m = length m.slots.items

-- what is told of its slots
abbrev pub slots_of : MemRack → ℕ → Slot
slots_of m = told_slot_at m.slots.items

-- what it tells
abbrev pub told_of : MemRack → Option Trail
told_of m = told_by m.log.tells m.log.start.items m.log.calls.items

-- whether the next call is to fail, if it is on this disk
abbrev pub fails_next : MemRack → ℕ → Bool
fails_next m disk = is_planned m.log.most m.log.plan.items m.log.calls.items disk

-- The rules are as before, and this call is listed and told where the list was not full.
pub record Notes (old new : MemRack) (c : Call) : Type 0 where
  pub rules : rules_of new ≡ rules_of old
  pub list : listed_calls new ≡ listed_after (rules_of old).most (listed_calls old) c
  pub tells : told_of new
      ≡ told_after (has_room_for_call (rules_of old).most (listed_calls old)) (told_of old) c

-- how each slot was at the start
abbrev pub start_of : MemRack → List Beginning
start_of m = map beginning_of m.log.start.items

-- no call was made since this start
abbrev pub before_calls : List Beginning → Trail
before_calls start = record { start = start; calls = [] }

-- no slot has a disk at the start, and no call was made
abbrev pub no_disks : ℕ → Trail
no_disks count = before_calls (replicate count no_beginning)

-- a slot of a rack that begins so, before any call
abbrev pub first_slot : List Beginning → ℕ → Slot
first_slot start d = record {
  power = (beginning start d).power;
  size = length (beginning start d).blocks;
  unsynced = false;
  faults = 0;
}
