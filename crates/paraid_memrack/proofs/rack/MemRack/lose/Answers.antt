use Rattle.std.proofs.Common.{◌≡◌, ◌<◌, ℕ, true, List, [], Some, length, set, refl, sym, ◌∙◌, ap, subst, arith}
use Rattle.std.proofs.lemmas.List.{length-map, length-set}
use Rattle.paraid_rack.specs.Alike.{IsAlike}
use Rattle.paraid_rack.specs.Disks.{lose}
use Rattle.paraid_rack.specs.Trail.{Beginning, Trail, initial, now}
use Rattle.paraid_memrack.specs.declared.rack.MemRack.{MemRack}
use Rattle.paraid_memrack.specs.Rules.{listed_calls, start_of, told_of, before_calls}
use Rattle.paraid_memrack.specs.Slots.{full_slot_at}
use Rattle.paraid_memrack.specs.Tells.{beginning_of, no_beginning, IsSlotOf}
use Rattle.paraid_memrack.proofs.FirstLemmas.{told_untouched, tells_some, lost_start, keeps_lost}
use Rattle.paraid_memrack.proofs.NoteLemmas.{some_same}
use Rattle.paraid_memrack.proofs.ViewLemmas.{small_after, slots_after}
use Rattle.paraid_memrack.proofs.LawfulLemmas.{lawful_untouched}
use Rattle.paraid_memrack.proofs.rack.MemRack.lose.Goals as goal

-- the slot is one of the start
at_start : (rack : MemRack) (d : ℕ) → d < length rack.slots.items → d < length (start_of rack)
at_start rack d within = omega (arith, rack.same, length-map rack.log.start.items beginning_of)

-- what the rack told before
was_told : (rack : MemRack) → rack.log.tells ≡ true → listed_calls rack ≡ [] → told_of rack ≡ Some (before_calls (start_of rack))
was_told rack tells none = told_untouched rack.log.tells rack.log.start.items rack.log.calls.items tells none

pub invariant_of-self-clause-sound : goal.invariant_of-self-clause-sound
invariant_of-self-clause-sound c = slots_after c.remove.ensures c.args.self.now.sound c.requires.exists (λ _. refl) (λ bad. absurd (cc))

pub invariant_of-self-clause-small : goal.invariant_of-self-clause-small
invariant_of-self-clause-small c = small_after c.remove.ensures c.args.self.now.small (omega arith)

pub invariant_of-self-clause-keeps : goal.invariant_of-self-clause-keeps
invariant_of-self-clause-keeps c t told =
    let rack = c.args.self.now in
    let log = c.lose.new.self in
    let start = start_of rack in
    let tells = tells_some rack.log.tells rack.log.start.items rack.log.calls.items c.requires.tells in
    let now_told = told_untouched log.tells log.start.items log.calls.items (c.lose.ensures.tells ∙ tells) (ap (λ v. v.items) c.lose.ensures.calls ∙ c.requires.unused) in
    let is : before_calls (set start c.args.disk no_beginning) ≡ t = ap before_calls (sym c.lose.ensures.start) ∙ some_same (sym now_told ∙ told) in
    let before : (d : ℕ) → IsSlotOf (initial start) d (full_slot_at rack.slots.items d) = rack.keeps (before_calls start) (was_told rack tells c.requires.unused) in
    subst (λ (u : Trail). (d : ℕ) → IsSlotOf (now u) d (full_slot_at c.remove.new.slots.items d)) is
    (keeps_lost start c.args.disk (at_start rack c.args.disk c.requires.exists) rack.slots.items c.remove.new.slots.items _ c.remove.ensures refl refl before)

pub invariant_of-self-clause-same : goal.invariant_of-self-clause-same
invariant_of-self-clause-same c =
    let rack = c.args.self.now in
    omega (arith, ap length c.lose.ensures.start, length-map c.lose.new.self.start.items beginning_of, length-set (start_of rack) c.args.disk no_beginning, length-map rack.log.start.items beginning_of, rack.same, c.remove.ensures.same_length)

pub returns-clause-told : goal.returns-clause-told
returns-clause-told c =
    let rack = c.args.self.now in
    let tells = tells_some rack.log.tells rack.log.start.items rack.log.calls.items c.requires.tells in
    told_untouched _ _ _ (c.lose.ensures.tells ∙ tells) (ap (λ v. v.items) c.lose.ensures.calls ∙ c.requires.unused)

pub returns-clause-lost : goal.returns-clause-lost
returns-clause-lost c =
    let rack = c.args.self.now in
    subst (λ (s : List Beginning). IsAlike (lose c.args.disk (initial (start_of rack))) (initial s)) (sym c.lose.ensures.start)
    (lost_start (start_of rack) c.args.disk (at_start rack c.args.disk c.requires.exists))

pub invariant_of-self-clause-lawful : goal.invariant_of-self-clause-lawful
invariant_of-self-clause-lawful c =
    let rack = c.args.self.now in
    let log = c.lose.new.self in
    let tells = tells_some rack.log.tells rack.log.start.items rack.log.calls.items c.requires.tells in
    lawful_untouched _ (told_untouched log.tells log.start.items log.calls.items (c.lose.ensures.tells ∙ tells) (ap (λ v. v.items) c.lose.ensures.calls ∙ c.requires.unused)) refl
