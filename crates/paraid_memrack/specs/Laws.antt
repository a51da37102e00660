-- What is always told of the slots agrees with what is told of the calls.
use Rattle.std.specs.Prelude.{ℕ}
use Rattle.paraid_rack.specs.Disks.{Disks}
use Rattle.paraid_rack.specs.Slots.{Agrees}
use Rattle.paraid_memrack.specs.Slots.{FullSlot, told_slot}
use Rattle.paraid_memrack.specs.Tells.{IsSlotOf}

-- slots that are as the record says agree with it
abbrev pub agrees_of : (s : Disks) (views : ℕ → FullSlot)
    → ((d : ℕ) → IsSlotOf s d (views d)) → Agrees s (λ d. told_slot (views d))
agrees_of s views holds = record {
  power = λ d. (holds d).power;
  size = λ d. (holds d).size;
  loose = λ d p. (holds d).loose p;
}
