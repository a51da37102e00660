use Rattle.std.proofs.Common.{ℕ, refl, ap, true, ◌∙◌}
use Rattle.paraid_rack.specs.declared.call.Call.TheVariants.{Write}
use Rattle.paraid_rack.specs.Slots.{Slot}
use Rattle.paraid_memrack.specs.Slots.{full_slot_at}
use Rattle.paraid_memrack.proofs.ViewLemmas.{touched_done}
use Rattle.paraid_memrack.proofs.SlotCallLemmas.{holds_write}
use Rattle.paraid_memrack.proofs.NoteLemmas.{keeps_after, grows_told}
use Rattle.paraid_memrack.proofs.RackLemmas.{notes_of}
use Rattle.std.proofs.lemmas.List.{length-set}
use Rattle.paraid_memrack.proofs.LawfulLemmas.{lawful_after}
use Rattle.paraid_memrack.proofs.rack.MemRackRack.write.Goals as goal

pub invariant_of-self-clause-keeps : goal.invariant_of-self-clause-keeps
invariant_of-self-clause-keeps c =
    let rack = c.args.self.now in
    keeps_after _ (Write c.args.disk c.args.place c.args.block.now true) (rw c.copy-bytes.ensures at c.note.ensures.told) refl c.put.ensures rack.keeps
    (λ s h. holds_write s c.args.disk (full_slot_at rack.slots.items c.args.disk) h c.args.place c.args.block.now c.requires.spinning c.requires.within)

pub returns-clause-slot : goal.returns-clause-slot
returns-clause-slot c =
    let was = full_slot_at c.args.self.now.slots.items c.args.disk in
    touched_done c.put.ensures _ _ (ap (λ (n : ℕ). let s : Slot = record { power = was.power; size = n; unsynced = true; faults = was.faults } in s) (length-set was.blocks c.args.place c.args.block.now))

pub returns-clause-told : goal.returns-clause-told
returns-clause-told c = grows_told _ _ _ _ (rw c.copy-bytes.ensures at c.note.ensures.told)

pub returns-clause-notes : goal.returns-clause-notes
returns-clause-notes c =
    let bytes = c.copy-bytes.ensures in
    notes_of (ap (λ v. v.items) c.note.ensures.plan) c.note.ensures.most refl (rw bytes at c.note.ensures.calls) (rw bytes at c.note.ensures.told)

pub fail-requires-clause-lawful : goal.fail-requires-clause-lawful
fail-requires-clause-lawful c t tells = (c.args.self.now.keeps t tells c.args.disk).power ∙ c.requires.spinning

pub invariant_of-self-clause-lawful : goal.invariant_of-self-clause-lawful
invariant_of-self-clause-lawful c = lawful_after _ (Write c.args.disk c.args.place c.args.block.now true) (rw c.copy-bytes.ensures at c.note.ensures.told) c.args.self.now.lawful (λ t tells. (c.args.self.now.keeps t tells c.args.disk).power ∙ c.requires.spinning)
