use Rattle.std.proofs.Common.{ℕ, length, refl, ◌∙◌, ap, true, false}
use Rattle.paraid_base.specs.Xor.{zero_block}
use Rattle.paraid_rack.specs.declared.call.Power.TheVariants.{Spinning}
use Rattle.paraid_rack.specs.declared.call.Call.TheVariants.{Attach}
use Rattle.paraid_rack.specs.Slots.{Slot}
use Rattle.paraid_memrack.specs.Slots.{full_slot_at}
use Rattle.paraid_memrack.proofs.ViewLemmas.{touched_done}
use Rattle.paraid_memrack.proofs.SlotCallLemmas.{holds_attach}
use Rattle.paraid_memrack.proofs.NoteLemmas.{keeps_after, grows_told}
use Rattle.paraid_memrack.proofs.RackLemmas.{notes_of}
use Rattle.std.proofs.lemmas.List.{length-replicate}
use Rattle.paraid_memrack.proofs.LawfulLemmas.{lawful_after}
use Rattle.paraid_memrack.proofs.rack.MemRackRack.attach.Goals as goal

pub invariant_of-self-clause-keeps : goal.invariant_of-self-clause-keeps
invariant_of-self-clause-keeps c =
    let rack = c.args.self.now in
    keeps_after _ (Attach c.args.disk c.args.size true) c.note.ensures.told refl c.fill.ensures rack.keeps
    (λ s h. holds_attach s c.args.disk (full_slot_at rack.slots.items c.args.disk) _ c.args.size c.in-Ok.ensures.zeros)

pub returns-clause-slot : goal.returns-clause-slot
returns-clause-slot c =
    let was = full_slot_at c.args.self.now.slots.items c.args.disk in
    touched_done c.fill.ensures _ _ (ap (λ (n : ℕ). let s : Slot = record { power = Spinning; size = n; unsynced = false; faults = was.faults } in s)
    (ap length c.in-Ok.ensures.zeros ∙ length-replicate c.args.size zero_block))

pub returns-clause-told : goal.returns-clause-told
returns-clause-told c = grows_told _ _ _ _ c.note.ensures.told

pub returns-clause-notes : goal.returns-clause-notes
returns-clause-notes c = notes_of (ap (λ v. v.items) c.note.ensures.plan) c.note.ensures.most refl c.note.ensures.calls c.note.ensures.told

pub invariant_of-self-clause-lawful : goal.invariant_of-self-clause-lawful
invariant_of-self-clause-lawful c = lawful_after _ (Attach c.args.disk c.args.size true) c.note.ensures.told c.args.self.now.lawful (λ t tells. tt)
