use Rattle.std.proofs.Common.{length, map, ◌∙◌, ap, arith}
use Rattle.std.proofs.lemmas.List.{length-map, take_all}
use Rattle.paraid_base.specs.declared.block.Block.{Block}
use Rattle.paraid_memrack.specs.Versions.{left_bytes}
use Rattle.paraid_memrack.proofs.PushLemmas.{length_so_far, map_goes_on}
use Rattle.paraid_memrack.proofs.versions.left_blocks.Goals as goal

pub push_reserved-requires : goal.push_reserved-requires
push_reserved-requires c =
    let bytes = λ (b : Block). b.bytes in
    let blocks = c.loop-version.blocks.items in
    let all = ap length c.deref-version-items.ensures.value in
    let so_far = length_so_far (left_bytes c.args.pick) (map bytes blocks) c.args.versions.now.items c.loop-version.version-index (omega (arith, all)) c.loop-version.invariant.1 in
    omega (arith, c.loop-version.invariant.0, all, so_far, length-map blocks bytes, c.loop-version.blocks.ok.0)

pub loop-version-preserved : goal.loop-version-preserved
loop-version-preserved c =
    let same = c.deref-version-items.ensures.value in
    let within = rw same at c.loop-version-test.true in
    let read = rw same at c.version-item.is in (
      c.push_reserved.ensures.capacity ∙ c.loop-version.invariant.0,
      map_goes_on (λ (b : Block). b.bytes) (left_bytes c.args.pick) _ _ c.left.result c.args.versions.now.items c.loop-version.version-index c.version-item.result
          c.push_reserved.ensures.items c.left.ensures within read c.loop-version.invariant.1,
    )

pub returns : goal.returns
returns c =
    let end = rw c.deref-version-items.ensures.value at c.loop-version-test.false in
    c.loop-version.invariant.1 ∙ ap (map (left_bytes c.args.pick)) (take_all c.loop-version.version-index c.args.versions.now.items end)
