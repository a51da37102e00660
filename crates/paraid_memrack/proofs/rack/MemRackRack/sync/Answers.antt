use Rattle.std.proofs.Common.{refl, ap, true, ◌∙◌}
use Rattle.paraid_rack.specs.declared.call.Call.TheVariants.{Sync}
use Rattle.paraid_memrack.specs.Slots.{full_slot_at}
use Rattle.paraid_memrack.proofs.ViewLemmas.{touched_done}
use Rattle.paraid_memrack.proofs.SlotCallLemmas.{holds_sync}
use Rattle.paraid_memrack.proofs.NoteLemmas.{keeps_after, grows_told}
use Rattle.paraid_memrack.proofs.RackLemmas.{notes_of}
use Rattle.paraid_memrack.proofs.LawfulLemmas.{lawful_after}
use Rattle.paraid_memrack.proofs.rack.MemRackRack.sync.Goals as goal

pub invariant_of-self-clause-keeps : goal.invariant_of-self-clause-keeps
invariant_of-self-clause-keeps c =
    keeps_after _ (Sync c.args.disk true) c.note.ensures.told refl c.mark_synced.ensures c.args.self.now.keeps (λ s h. holds_sync s c.args.disk (full_slot_at c.args.self.now.slots.items c.args.disk) h)

pub returns-clause-slot : goal.returns-clause-slot
returns-clause-slot c = touched_done c.mark_synced.ensures _ _ refl

pub returns-clause-told : goal.returns-clause-told
returns-clause-told c = grows_told _ _ _ _ c.note.ensures.told

pub returns-clause-notes : goal.returns-clause-notes
returns-clause-notes c = notes_of (ap (λ v. v.items) c.note.ensures.plan) c.note.ensures.most refl c.note.ensures.calls c.note.ensures.told

pub fail-requires-clause-lawful : goal.fail-requires-clause-lawful
fail-requires-clause-lawful c t tells = (c.args.self.now.keeps t tells c.args.disk).power ∙ c.requires.spinning

pub invariant_of-self-clause-lawful : goal.invariant_of-self-clause-lawful
invariant_of-self-clause-lawful c = lawful_after _ (Sync c.args.disk true) c.note.ensures.told c.args.self.now.lawful (λ t tells. (c.args.self.now.keeps t tells c.args.disk).power ∙ c.requires.spinning)
