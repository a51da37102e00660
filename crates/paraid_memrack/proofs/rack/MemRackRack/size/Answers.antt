use Rattle.std.proofs.Common.{length, ap, arith}
use Rattle.paraid_memrack.specs.Slots.{FullSlot}
use Rattle.paraid_memrack.proofs.ViewLemmas.{view_here}
use Rattle.paraid_memrack.proofs.rack.MemRackRack.size.Goals as goal

pub overflow_cast-result : goal.overflow_cast-result
overflow_cast-result c =
    let y = c.index.result.now in
    let is = ap (λ (v : FullSlot). length v.blocks) (view_here c.args.self.now.slots.items c.args.disk y c.requires c.index.ensures) in
    omega (arith, c.len.ensures, y.blocks.ok.0, is, c.args.self.now.small c.args.disk)

pub returns : goal.returns
returns c =
    let y = c.index.result.now in
    let is = ap (λ (v : FullSlot). length v.blocks) (view_here c.args.self.now.slots.items c.args.disk y c.requires c.index.ensures) in
    omega (arith, c.len.ensures, y.blocks.ok.0, is)
