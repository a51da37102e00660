use Rattle.std.proofs.Common.{length, map, sym, ◌∙◌, ap, arith}
use Rattle.std.proofs.lemmas.List.{take_all}
use Rattle.std.proofs.lemmas.Simd.{map-map}
use Rattle.paraid_memrack.specs.declared.log.Start.{Start}
use Rattle.paraid_memrack.specs.Past.{past_of, past_start}
use Rattle.paraid_memrack.specs.Tells.{beginning_of}
use Rattle.paraid_memrack.proofs.PushLemmas.{map_goes_on, length_made}
use Rattle.paraid_memrack.proofs.replay.slots_at_start.Goals as goal

pub push_reserved-requires : goal.push_reserved-requires
push_reserved-requires c =
    let all = ap length c.deref-slot-items.ensures.value in
    let so_far = length_made past_of (λ (s : Start). past_start (beginning_of s)) c.loop-slot.slots.items c.args.start.now.items
    c.loop-slot.slot-index (omega (arith, all)) c.loop-slot.invariant.1 in
    omega (arith, c.loop-slot.invariant.0, all, so_far, c.loop-slot.slots.ok.0)

pub loop-slot-preserved : goal.loop-slot-preserved
loop-slot-preserved c =
    let same = c.deref-slot-items.ensures.value in
    let within = rw same at c.loop-slot-test.true in
    let read = rw same at c.slot-item.is in (
      c.push_reserved.ensures.capacity ∙ c.loop-slot.invariant.0,
      map_goes_on past_of (λ (s : Start). past_start (beginning_of s)) _ _ c.in_ok-at_start.field-0 c.args.start.now.items
          c.loop-slot.slot-index c.slot-item.result c.push_reserved.ensures.items c.in_ok-at_start.ensures within read c.loop-slot.invariant.1,
    )

pub returns : goal.returns
returns c =
    let start = c.args.start.now.items in
    let f = λ (s : Start). past_start (beginning_of s) in
    c.loop-slot.invariant.1 ∙ ap (map f) (take_all c.loop-slot.slot-index start (omega (arith, c.loop-slot-test.false, ap length c.deref-slot-items.ensures.value)))
    ∙ sym (map-map past_start beginning_of start)
