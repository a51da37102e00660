use Rattle.std.proofs.Common.{length, map, false, ◌∙◌, ap, arith}
use Rattle.std.proofs.lemmas.List.{take_all}
use Rattle.paraid_memrack.specs.Versions.{synced_block}
use Rattle.paraid_memrack.proofs.PushLemmas.{length_so_far, made_goes_on}
use Rattle.paraid_memrack.proofs.versions.firm_versions.Goals as goal

pub push_reserved-requires : goal.push_reserved-requires
push_reserved-requires c =
    let all = ap length c.deref-block-items.ensures.value in
    let so_far = length_so_far synced_block c.loop-block.versions.items c.args.blocks.now.items c.loop-block.block-index (omega (arith, all)) c.loop-block.invariant.1 in
    omega (arith, c.loop-block.invariant.0, all, so_far, c.loop-block.versions.ok.0)

pub loop-block-preserved : goal.loop-block-preserved
loop-block-preserved c =
    let same = c.deref-block-items.ensures.value in
    let within = rw same at c.loop-block-test.true in
    let read = rw same at c.block-item.is in (
      c.push_reserved.ensures.capacity ∙ c.loop-block.invariant.0,
      made_goes_on synced_block _ _ _ c.args.blocks.now.items c.loop-block.block-index c.block-item.result c.push_reserved.ensures.items
          (λ i. record { written = c.copy.ensures i; kept = c.copy-in-loop-block.ensures i; loose = false }) within read c.loop-block.invariant.1,
    )

pub returns : goal.returns
returns c =
    let end = rw c.deref-block-items.ensures.value at c.loop-block-test.false in
    c.loop-block.invariant.1 ∙ ap (map synced_block) (take_all c.loop-block.block-index c.args.blocks.now.items end)
