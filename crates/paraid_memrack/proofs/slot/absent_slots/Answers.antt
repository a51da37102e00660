use Rattle.std.proofs.Common.{false, List, length, refl, ◌∙◌, ap, arith}
use Rattle.std.proofs.lemmas.List.{length_push}
use Rattle.paraid_rack.specs.declared.call.Power.TheVariants.{Absent}
use Rattle.paraid_memrack.specs.declared.slot.MemSlot.{MemSlot}
use Rattle.paraid_memrack.specs.Slots.{full_slot_at}
use Rattle.paraid_memrack.proofs.ViewLemmas.{same_view, nothing_push, no_slots}
use Rattle.paraid_memrack.proofs.slot.absent_slots.Goals as goal

pub push_reserved-requires : goal.push_reserved-requires
push_reserved-requires c = omega (arith, c.loop-i.invariant.0, c.loop-i.invariant.1, c.loop-i.slots.ok.0)

pub loop-i-preserved : goal.loop-i-preserved
loop-i-preserved c =
    let x : MemSlot = record { power = Absent; blocks = c.new.result; unsynced = false; faults = 0 } in (
      c.push_reserved.ensures.capacity ∙ c.loop-i.invariant.0,
      omega (arith, c.loop-i.invariant.1, ap length c.push_reserved.ensures.items, length_push c.loop-i.slots.items x),
      λ d. ap (λ (l : List MemSlot). full_slot_at l d) c.push_reserved.ensures.items ∙ nothing_push c.loop-i.slots.items x (same_view refl c.new.ensures.items refl refl) c.loop-i.invariant.2 d,
    )

pub loop-i-init : goal.loop-i-init
loop-i-init c = (c.in-Ok.ensures.exact, omega (arith, ap length c.in-Ok.ensures.items), no_slots _ c.in-Ok.ensures.items)
