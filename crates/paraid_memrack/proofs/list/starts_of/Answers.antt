use Rattle.std.proofs.Common.{length, map, ◌∙◌, ap, arith}
use Rattle.std.proofs.lemmas.List.{take_all}
use Rattle.paraid_memrack.specs.Tells.{beginning_of}
use Rattle.paraid_memrack.proofs.PushLemmas.{length_made}
use Rattle.paraid_memrack.proofs.list.starts_of.Goals as goal

pub push_reserved-requires : goal.push_reserved-requires
push_reserved-requires c =
    let all = ap length c.deref-slot-items.ensures.value in
    let so_far = length_made beginning_of beginning_of c.loop-slot.starts.items c.args.start.now.items c.loop-slot.slot-index (omega (arith, all)) c.loop-slot.invariant.1 in
    omega (arith, c.loop-slot.invariant.0, all, so_far, c.loop-slot.starts.ok.0)

pub returns : goal.returns
returns c =
    c.loop-slot.invariant.1 ∙ ap (map beginning_of) (take_all c.loop-slot.slot-index c.args.start.now.items (omega (arith, c.loop-slot-test.false, ap length c.deref-slot-items.ensures.value)))
