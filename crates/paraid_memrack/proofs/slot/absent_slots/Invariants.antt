use Rattle.std.proofs.Common.{◌≡◌, ℕ, length, vec_capacity}
use Rattle.paraid_memrack.specs.Slots.{full_slot_at, no_slot}
use Rattle.paraid_memrack.proofs.slot.absent_slots.Given as goal

abbrev pub invariant-loop-i : goal.invariant-loop-i
invariant-loop-i l = (vec_capacity l.slots ≡ l.count) × (length l.slots.items ≡ l._i) × ((d : ℕ) → full_slot_at l.slots.items d ≡ no_slot)
