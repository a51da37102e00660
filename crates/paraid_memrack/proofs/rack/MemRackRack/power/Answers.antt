use Rattle.std.proofs.Common.{sym, ap}
use Rattle.paraid_memrack.specs.Slots.{FullSlot}
use Rattle.paraid_memrack.proofs.ViewLemmas.{view_here}
use Rattle.paraid_memrack.proofs.rack.MemRackRack.power.Goals as goal

pub returns : goal.returns
returns c = sym (ap (λ (v : FullSlot). v.power) (view_here c.args.self.now.slots.items c.args.disk c.index.result.now c.requires c.index.ensures))
