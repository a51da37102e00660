use Rattle.std.proofs.Common.{length, set, refl, sym, ◌∙◌, ap, arith}
use Rattle.paraid_memrack.specs.Slots.{FullSlot, full_slot_at}
use Rattle.paraid_memrack.proofs.ViewLemmas.{view_here, same_view, becomes_set}
use Rattle.paraid_memrack.proofs.slot.put.Goals as goal

pub index_mut-requires : goal.index_mut-requires
index_mut-requires c =
    let y = c.index_mut-slot.result.now in
    let was = view_here c.args.slots.now.items c.args.disk y c.requires.exists c.index_mut-slot.ensures.value in
    omega (arith, c.requires.within, ap (λ (v : FullSlot). length v.blocks) was, y.blocks.ok.0)

pub returns : goal.returns
returns c =
    let y = c.index_mut-slot.result.now in
    let was = sym (view_here c.args.slots.now.items c.args.disk y c.requires.exists c.index_mut-slot.ensures.value) in
    becomes_set _ _ _ _ c.requires.exists (same_view (ap (λ (v : FullSlot). v.power) was)
    (ap (λ (v : FullSlot). set v.blocks c.args.place c.copy_from.new.self) was ∙ ap (set (full_slot_at c.args.slots.now.items c.args.disk).blocks c.args.place) c.copy_from.ensures)
    refl (ap (λ (v : FullSlot). v.faults) was))
