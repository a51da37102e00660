use Rattle.std.proofs.Common.{◌≡◌, length, map, take, vec_capacity}
use Rattle.paraid_memrack.specs.declared.log.Start.{Start}
use Rattle.paraid_memrack.specs.Slots.{full_slot, full_slot_from}
use Rattle.paraid_memrack.specs.Tells.{beginning_of}
use Rattle.paraid_memrack.proofs.slot.first_slots.Given as goal

abbrev pub invariant-loop-slot : goal.invariant-loop-slot
invariant-loop-slot l =
    (vec_capacity l.slots ≡ length l.start.items) × (map full_slot l.slots.items ≡ map (λ (s : Start). full_slot_from (beginning_of s)) (take l.slot-index l.start.items))
