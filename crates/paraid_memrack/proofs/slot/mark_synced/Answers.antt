use Rattle.std.proofs.Common.{refl, sym, ap}
use Rattle.paraid_memrack.specs.Slots.{FullSlot}
use Rattle.paraid_memrack.proofs.ViewLemmas.{view_here, same_view, becomes_set}
use Rattle.paraid_memrack.proofs.slot.mark_synced.Goals as goal

pub returns : goal.returns
returns c =
    let was = sym (view_here c.args.slots.now.items c.args.disk c.index_mut.result.now c.requires c.index_mut.ensures.value) in
    becomes_set _ _ _ _ c.requires (same_view (ap (λ (v : FullSlot). v.power) was) (ap (λ (v : FullSlot). v.blocks) was) refl (ap (λ (v : FullSlot). v.faults) was))
