use Rattle.std.proofs.Common.{◌+◌, min, refl, sym, ◌∙◌, ap, arith}
use Rattle.paraid_memrack.specs.Slots.{FullSlot}
use Rattle.paraid_memrack.proofs.ViewLemmas.{view_here, same_view, becomes_set, faults_after}
use Rattle.paraid_memrack.proofs.slot.fail.Goals as goal

pub returns-clause-becomes : goal.returns-clause-becomes
returns-clause-becomes c =
    let y = c.index_mut-slot.result.now in
    let was = view_here c.args.slots.now.items c.args.disk y c.requires c.index_mut-slot.ensures.value in
    becomes_set _ _ _ _ c.requires (same_view refl c.new.ensures.items refl (c.saturating_add-slot.ensures ∙ ap (λ (v : FullSlot). min (v.faults + 1) 18446744073709551615) (sym was)))

pub returns-clause-later : goal.returns-clause-later
returns-clause-later c =
    let y = c.index_mut-slot.result.now in
    let was = view_here c.args.slots.now.items c.args.disk y c.requires c.index_mut-slot.ensures.value in
    faults_after {dirt = c.args.dirt} (becomes_set _ _ _ _ c.requires (same_view refl c.new.ensures.items refl (c.saturating_add-slot.ensures ∙ ap (λ (v : FullSlot). min (v.faults + 1) 18446744073709551615) (sym was)))) y was (omega arith)
