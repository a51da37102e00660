use Rattle.std.proofs.Common.{length, ap, arith}
use Rattle.paraid_memrack.specs.Slots.{FullSlot}
use Rattle.paraid_memrack.proofs.ViewLemmas.{view_here}
use Rattle.paraid_memrack.proofs.RackLemmas.{present, block_told}
use Rattle.paraid_memrack.proofs.rack.MemRack.block.Goals as goal

pub index-requires-2 : goal.index-requires-2
index-requires-2 c =
    let y = c.index.result.now in
    let is = ap (λ (v : FullSlot). length v.blocks) (view_here c.args.self.now.slots.items c.args.disk y c.requires.exists c.index.ensures) in
    omega (arith, c.requires.within, y.blocks.ok.0, is)

pub returns : goal.returns
returns c t tells =
    let rack = c.args.self.now in
    let y = c.index.result.now in
    block_told rack.slots.items c.args.disk c.args.place y c.index-2.result.now _ (view_here rack.slots.items c.args.disk y c.requires.exists c.index.ensures) c.requires.within
    (present rack.sound c.args.disk c.args.place c.requires.within) c.index-2.ensures (rack.keeps t tells c.args.disk)
