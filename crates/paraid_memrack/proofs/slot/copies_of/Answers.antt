use Rattle.std.proofs.Common.{length, ◌∙◌, ap, arith}
use Rattle.std.proofs.lemmas.List.{length-take-le, take_all}
use Rattle.paraid_memrack.proofs.PushLemmas.{goes_on}
use Rattle.paraid_memrack.proofs.slot.copies_of.Goals as goal

pub push_reserved-requires : goal.push_reserved-requires
push_reserved-requires c = omega (arith, c.loop-block.invariant.0, ap length c.loop-block.invariant.1, ap length c.deref-block-items.ensures.value, length-take-le c.loop-block.block-index c.args.blocks.now.items (omega (arith, ap length c.deref-block-items.ensures.value)), c.loop-block.copies.ok.0)

pub loop-block-preserved : goal.loop-block-preserved
loop-block-preserved c =
    let same = c.deref-block-items.ensures.value in
    let within = rw same at c.loop-block-test.true in
    let read = rw same at c.block-item.is in (
      c.push_reserved.ensures.capacity ∙ c.loop-block.invariant.0,
      goes_on _ _ _ c.args.blocks.now.items c.loop-block.block-index c.block-item.result c.push_reserved.ensures.items c.copy.ensures within read c.loop-block.invariant.1,
    )

pub returns : goal.returns
returns c =
    let end = rw c.deref-block-items.ensures.value at c.loop-block-test.false in
    c.loop-block.invariant.1 ∙ take_all c.loop-block.block-index c.args.blocks.now.items end
