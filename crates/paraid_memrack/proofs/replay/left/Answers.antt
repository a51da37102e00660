use Rattle.std.proofs.Common.{length, map, sym, ◌∙◌, ap, arith}
use Rattle.std.proofs.lemmas.List.{take_all}
use Rattle.std.proofs.lemmas.Simd.{map-map}
use Rattle.paraid_memrack.specs.declared.past.PastSlot.{PastSlot}
use Rattle.paraid_memrack.specs.Past.{past_of, in_bytes, left_in_bytes}
use Rattle.paraid_memrack.specs.Tells.{beginning_of}
use Rattle.paraid_memrack.specs.declared.log.Start.{Start}
use Rattle.paraid_memrack.proofs.PushLemmas.{map_goes_on, length_made}
use Rattle.paraid_memrack.proofs.replay.left.Goals as goal

pub push_reserved-requires : goal.push_reserved-requires
push_reserved-requires c =
    let all = ap length c.deref-slot-items.ensures.value in
    let so_far = length_made (λ (s : Start). in_bytes (beginning_of s)) (λ (s : PastSlot). left_in_bytes c.args.pick (past_of s)) c.loop-slot.start.items c.args.slots.now.items
    c.loop-slot.slot-index (omega (arith, all)) c.loop-slot.invariant.1 in
    omega (arith, c.loop-slot.invariant.0, all, so_far, c.loop-slot.start.ok.0)

pub returns : goal.returns
returns c =
    let slots = c.args.slots.now.items in
    let f = λ (s : PastSlot). left_in_bytes c.args.pick (past_of s) in
    map-map in_bytes beginning_of c.loop-slot.start.items
    ∙ c.loop-slot.invariant.1 ∙ ap (map f) (take_all c.loop-slot.slot-index slots (omega (arith, c.loop-slot-test.false, ap length c.deref-slot-items.ensures.value)))
    ∙ sym (map-map (left_in_bytes c.args.pick) past_of slots)

pub loop-slot-preserved : goal.loop-slot-preserved
loop-slot-preserved c =
    let same = c.deref-slot-items.ensures.value in
    let within = rw same at c.loop-slot-test.true in
    let read = rw same at c.slot-item.is in (
      c.push_reserved.ensures.capacity ∙ c.loop-slot.invariant.0,
      map_goes_on (λ (s : Start). in_bytes (beginning_of s)) (λ (s : PastSlot). left_in_bytes c.args.pick (past_of s)) _ _ c.in_ok-left.field-0 c.args.slots.now.items
          c.loop-slot.slot-index c.slot-item.result c.push_reserved.ensures.items c.in_ok-left.ensures within read c.loop-slot.invariant.1,
    )
