use Rattle.std.proofs.Common.{length, refl, ◌∙◌, ap, arith, true}
use Rattle.paraid_rack.specs.declared.call.Call.TheVariants.{Read}
use Rattle.paraid_memrack.specs.Slots.{FullSlot, full_slot_at}
use Rattle.paraid_memrack.proofs.ViewLemmas.{view_here, touched_none}
use Rattle.paraid_memrack.proofs.SlotCallLemmas.{holds_read}
use Rattle.paraid_memrack.proofs.NoteLemmas.{keeps_still, grows_told}
use Rattle.paraid_memrack.proofs.RackLemmas.{notes_of, present, block_told}
use Rattle.paraid_memrack.proofs.LawfulLemmas.{lawful_after}
use Rattle.paraid_memrack.proofs.rack.MemRackRack.read.Goals as goal

pub index-requires-2 : goal.index-requires-2
index-requires-2 c =
    let y = c.index.result.now in
    let is = ap (λ (v : FullSlot). length v.blocks) (view_here c.args.self.now.slots.items c.args.disk y c.requires.exists c.index.ensures) in
    omega (arith, c.requires.within, y.blocks.ok.0, is)

pub invariant_of-self-clause-keeps : goal.invariant_of-self-clause-keeps
invariant_of-self-clause-keeps c =
    let rack = c.args.self.now in
    keeps_still _ (Read c.args.disk c.args.place true) {d = c.args.disk} rack.slots.items c.note.ensures.told refl rack.keeps (λ s h. holds_read s c.args.disk (full_slot_at rack.slots.items c.args.disk) h c.args.place)

pub returns-clause-slot : goal.returns-clause-slot
returns-clause-slot c = touched_none _ _ _

pub returns-clause-told : goal.returns-clause-told
returns-clause-told c = grows_told _ _ _ _ c.note.ensures.told

pub returns-clause-bytes : goal.returns-clause-bytes
returns-clause-bytes c t tells =
    let rack = c.args.self.now in
    let y = c.index.result.now in
    c.copy_from.ensures ∙ block_told rack.slots.items c.args.disk c.args.place y c.index-2.result.now _ (view_here rack.slots.items c.args.disk y c.requires.exists c.index.ensures) c.requires.within
    (present rack.sound c.args.disk c.args.place c.requires.within) c.index-2.ensures (rack.keeps t tells c.args.disk)

pub returns-clause-notes : goal.returns-clause-notes
returns-clause-notes c = notes_of (ap (λ v. v.items) c.note.ensures.plan) c.note.ensures.most refl c.note.ensures.calls c.note.ensures.told

pub fail-requires-clause-lawful : goal.fail-requires-clause-lawful
fail-requires-clause-lawful c t tells = (c.args.self.now.keeps t tells c.args.disk).power ∙ c.requires.spinning

pub invariant_of-self-clause-lawful : goal.invariant_of-self-clause-lawful
invariant_of-self-clause-lawful c = lawful_after _ (Read c.args.disk c.args.place true) c.note.ensures.told c.args.self.now.lawful (λ t tells. (c.args.self.now.keeps t tells c.args.disk).power ∙ c.requires.spinning)
