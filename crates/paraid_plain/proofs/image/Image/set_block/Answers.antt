use Rattle.std.proofs.Common.{set, refl, ap, arith}
use Rattle.paraid_plain.proofs.ImageLemmas.{disks-set_block, size_here, slot_exists}
use Rattle.paraid_plain.proofs.image.Image.set_block.Goals as goal

pub index_mut-requires : goal.index_mut-requires
index_mut-requires c =
    let vec = c.args.self.now.slots in
    let exists = slot_exists vec.items c.args.disk c.args.place c.requires in
    omega (arith, vec.ok.0)

pub index_mut-requires-2 : goal.index_mut-requires-2
index_mut-requires-2 c =
    let slots = c.args.self.now.slots.items in
    let y = c.index_mut.result.now in
    let exists = slot_exists slots c.args.disk c.args.place c.requires in
    let size = size_here slots c.args.disk y exists c.index_mut.ensures.value in
    omega (arith, y.blocks.ok.0, c.requires)

pub returns-clause-disks : goal.returns-clause-disks
returns-clause-disks c =
    let slots = c.args.self.now.slots.items in
    let exists = slot_exists slots c.args.disk c.args.place c.requires in
    let size = size_here slots c.args.disk c.index_mut.result.now exists c.index_mut.ensures.value in
    disks-set_block slots c.args.disk _ c.index_mut.result.now exists c.index_mut.ensures.value c.args.place c.args.block.now (omega arith) refl
    (ap (set c.index_mut.result.now.blocks.items c.args.place) c.copy_from.ensures)
