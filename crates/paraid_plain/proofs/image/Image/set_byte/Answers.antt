use Rattle.std.proofs.Common.{set, refl, sym, ap, ◌∙◌, arith}
use Rattle.paraid_base.specs.declared.block.Block.{Block}
use Rattle.paraid_base.proofs.XorLemmas.{same_block}
use Rattle.paraid_plain.proofs.ImageLemmas.{block_here, disks-set_block, read_here, size_here, slot_exists}
use Rattle.paraid_plain.proofs.image.Image.set_byte.Goals as goal

pub index_mut-requires : goal.index_mut-requires
index_mut-requires c =
    let vec = c.args.self.now.slots in
    let exists = slot_exists vec.items c.args.disk c.args.place c.requires.place in
    omega (arith, vec.ok.0)

pub index_mut-requires-2 : goal.index_mut-requires-2
index_mut-requires-2 c =
    let slots = c.args.self.now.slots.items in
    let y = c.index_mut.result.now in
    let exists = slot_exists slots c.args.disk c.args.place c.requires.place in
    let size = size_here slots c.args.disk y exists c.index_mut.ensures.value in
    omega (arith, y.blocks.ok.0, c.requires.place)

pub returns-clause-disks : goal.returns-clause-disks
returns-clause-disks c = λ b is.
    let slots = c.args.self.now.slots.items in
    let exists = slot_exists slots c.args.disk c.args.place c.requires.place in
    let size = size_here slots c.args.disk c.index_mut.result.now exists c.index_mut.ensures.value in
    let here = block_here slots c.args.disk c.index_mut.result.now exists c.index_mut.ensures.value c.args.place in
    let found = read_here c.index_mut.result.now.blocks.items c.args.place c.index_mut-2.result.now c.index_mut-2.ensures.value (omega arith) here in
    let was = ap (λ (w : Block). set w.bytes c.args.at c.args.byte) found in
    disks-set_block slots c.args.disk _ c.index_mut.result.now exists c.index_mut.ensures.value c.args.place b (omega arith) refl
    (ap (set c.index_mut.result.now.blocks.items c.args.place) (same_block c.set.new.self b (c.set.ensures ∙ was ∙ sym is)))
