use Rattle.std.proofs.Common.{length, map, sym, ◌∙◌, ap, arith}
use Rattle.std.proofs.lemmas.List.{take_all}
use Rattle.std.proofs.lemmas.Simd.{map-map}
use Rattle.paraid_memrack.specs.declared.log.Start.{Start}
use Rattle.paraid_memrack.specs.Slots.{full_slot, full_slot_from}
use Rattle.paraid_memrack.specs.Tells.{beginning_of}
use Rattle.paraid_memrack.proofs.PushLemmas.{length_made}
use Rattle.paraid_memrack.proofs.slot.first_slots.Goals as goal

pub push_reserved-requires : goal.push_reserved-requires
push_reserved-requires c =
    let all = ap length c.deref-slot-items.ensures.value in
    let so_far = length_made full_slot (λ (s : Start). full_slot_from (beginning_of s)) c.loop-slot.slots.items c.args.start.now.items
    c.loop-slot.slot-index (omega (arith, all)) c.loop-slot.invariant.1 in
    omega (arith, c.loop-slot.invariant.0, all, so_far, c.loop-slot.slots.ok.0)

pub returns : goal.returns
returns c =
    let start = c.args.start.now.items in
    let f = λ (s : Start). full_slot_from (beginning_of s) in
    c.loop-slot.invariant.1 ∙ ap (map f) (take_all c.loop-slot.slot-index start (omega (arith, c.loop-slot-test.false, ap length c.deref-slot-items.ensures.value)))
    ∙ sym (map-map full_slot_from beginning_of start)
