use Rattle.std.proofs.Common.{ℕ, refl, sym, subst, ap}
use Rattle.paraid_rack.specs.Disks.{step}
use Rattle.paraid_memrack.specs.Slots.{full_slot_at, after_failure}
use Rattle.paraid_memrack.specs.Tells.{IsSlotOf}
use Rattle.paraid_memrack.proofs.ViewLemmas.{touched_failed}
use Rattle.paraid_memrack.proofs.SlotCallLemmas.{holds_failed}
use Rattle.paraid_memrack.proofs.NoteLemmas.{keeps_after, grows_told}
use Rattle.paraid_memrack.proofs.RackLemmas.{notes_of}
use Rattle.paraid_memrack.proofs.LawfulLemmas.{lawful_after}
use Rattle.paraid_memrack.proofs.rack.MemRack.fail.Goals as goal

pub invariant_of-self-clause-keeps : goal.invariant_of-self-clause-keeps
invariant_of-self-clause-keeps c =
    let was = full_slot_at c.args.self.now.slots.items c.args.disk in
    keeps_after _ c.args.call c.note.ensures.told c.requires.on c.fail.ensures.becomes c.args.self.now.keeps (λ s h.
    subst (λ (k : ℕ). IsSlotOf (step c.args.call s) k (after_failure c.args.dirt was)) c.requires.on
    (holds_failed c.args.call s was (after_failure c.args.dirt was) c.requires.failed refl refl c.requires.dirt (subst (λ (k : ℕ). IsSlotOf s k was) (sym c.requires.on) h)))

pub returns-clause-slot : goal.returns-clause-slot
returns-clause-slot c = touched_failed c.fail.ensures.becomes c.fail.ensures.later

pub returns-clause-told : goal.returns-clause-told
returns-clause-told c = grows_told _ _ _ _ c.note.ensures.told

pub returns-clause-notes : goal.returns-clause-notes
returns-clause-notes c = notes_of (ap (λ v. v.items) c.note.ensures.plan) c.note.ensures.most refl c.note.ensures.calls c.note.ensures.told

pub invariant_of-self-clause-lawful : goal.invariant_of-self-clause-lawful
invariant_of-self-clause-lawful c = lawful_after _ c.args.call c.note.ensures.told c.args.self.now.lawful c.requires.lawful
