use Rattle.std.proofs.Common.{◌≡◌, List, length, map, sym, ◌∙◌, ap, subst, arith, refl}
use Rattle.std.proofs.lemmas.List.{length-map}
use Rattle.paraid_rack.specs.Alike.{IsAlike}
use Rattle.paraid_rack.specs.Disks.{Disks, IsImage}
use Rattle.paraid_rack.specs.Trail.{Trail, disks, initial}
use Rattle.paraid_memrack.specs.declared.log.Start.{Start}
use Rattle.paraid_memrack.specs.declared.past.PastSlot.{PastSlot}
use Rattle.paraid_memrack.specs.declared.stop.Pick.{Pick}
use Rattle.paraid_memrack.specs.Past.{past_of, in_bytes, left_in_bytes}
use Rattle.paraid_memrack.specs.Slots.{full_slot_from}
use Rattle.paraid_memrack.specs.Stop.{IsPicked, kept_at}
use Rattle.paraid_memrack.specs.Tells.{beginning_of}
use Rattle.paraid_memrack.proofs.FirstLemmas.{told_untouched, told_trail, slot_first, length_first, small_first, sound_first, keeps_first}
use Rattle.paraid_memrack.proofs.StopLemmas.{left_image, left_picked}
use Rattle.paraid_memrack.proofs.LawfulLemmas.{lawful_untouched}
use Rattle.paraid_memrack.proofs.rack.MemRack.stopped.Goals as goal

-- what is left of so many slots is as many
length_left : (pick : Pick) (past : List PastSlot) (start : List Start) → map in_bytes (map beginning_of start) ≡ map (left_in_bytes pick) (map past_of past) → length start ≡ length past
length_left pick past start same =
    omega (arith, ap length same, length-map (map beginning_of start) in_bytes, length-map start beginning_of, length-map (map past_of past) (left_in_bytes pick), length-map past past_of)

pub returns-clause-slots : goal.returns-clause-slots
returns-clause-slots c =
    length_first _ _ c.in_ok-slots.ensures ∙ length_left c.args.pick _ _ c.in_ok-start.ensures ∙ c.in_ok-past.ensures.length ∙ c.args.self.now.same

pub invariant_of-result-clause-sound : goal.invariant_of-result-clause-sound
invariant_of-result-clause-sound c =
    let count = length_first _ _ c.in_ok-slots.ensures ∙ length_left c.args.pick _ _ c.in_ok-start.ensures ∙ c.in_ok-past.ensures.length ∙ c.args.self.now.same in
    sound_first _ _ c.in_ok-slots.ensures (omega (arith, count, c.args.self.now.sound.few))

pub invariant_of-result-clause-small : goal.invariant_of-result-clause-small
invariant_of-result-clause-small c = small_first _ _ c.in_ok-slots.ensures

pub invariant_of-result-clause-keeps : goal.invariant_of-result-clause-keeps
invariant_of-result-clause-keeps c =
    let log = c.in_ok-log.log in
    let same = c.in_ok-slots.ensures ∙ ap (λ (l : List Start). map full_slot_from (map beginning_of l)) (sym c.in_ok-log.ensures.start) in
    keeps_first c.in_ok-slots.slots.items log.start.items same _ (told_untouched log.tells log.start.items log.calls.items c.in_ok-log.ensures.tells c.in_ok-log.ensures.calls)

pub invariant_of-result-clause-same : goal.invariant_of-result-clause-same
invariant_of-result-clause-same c = ap length c.in_ok-log.ensures.start ∙ sym (length_first _ _ c.in_ok-slots.ensures)

pub returns-clause-told : goal.returns-clause-told
returns-clause-told c = told_untouched _ _ _ c.in_ok-log.ensures.tells c.in_ok-log.ensures.calls

pub returns-clause-slot : goal.returns-clause-slot
returns-clause-slot c =
    let same = c.in_ok-slots.ensures ∙ ap (λ (l : List Start). map full_slot_from (map beginning_of l)) (sym c.in_ok-log.ensures.start) in
    slot_first c.in_ok-slots.slots.items c.in_ok-log.log.start.items same

pub returns-clause-image : goal.returns-clause-image
returns-clause-image c t tells =
    let log = c.args.self.now.log in
    let u : Trail = record { start = map beginning_of log.start.items; calls = log.calls.items } in
    let start = c.in_ok-log.log.start.items in
    let same = ap (λ (l : List Start). map in_bytes (map beginning_of l)) c.in_ok-log.ensures.start ∙ c.in_ok-start.ensures in
    subst (λ (v : Trail). (i : Disks) × IsImage (disks v c.args.moment) i × IsAlike i (initial (map beginning_of start))) (sym (told_trail log.tells log.start.items log.calls.items t tells))
    (left_image c.args.pick (disks u c.args.moment) (kept_at u c.args.moment) c.in_ok-past.past.items (map beginning_of start) c.in_ok-past.ensures.slots same)

pub returns-clause-picked : goal.returns-clause-picked
returns-clause-picked c t tells =
    let log = c.args.self.now.log in
    let u : Trail = record { start = map beginning_of log.start.items; calls = log.calls.items } in
    let start = c.in_ok-log.log.start.items in
    let same = ap (λ (l : List Start). map in_bytes (map beginning_of l)) c.in_ok-log.ensures.start ∙ c.in_ok-start.ensures in
    subst (λ (v : Trail). IsPicked c.args.pick v c.args.moment (initial (map beginning_of start))) (sym (told_trail log.tells log.start.items log.calls.items t tells))
    (left_picked c.args.pick u c.args.moment c.in_ok-past.past.items (map beginning_of start) c.in_ok-past.ensures.slots same)

pub invariant_of-result-clause-lawful : goal.invariant_of-result-clause-lawful
invariant_of-result-clause-lawful c =
    let log = c.in_ok-log.log in
    lawful_untouched _ (told_untouched log.tells log.start.items log.calls.items c.in_ok-log.ensures.tells c.in_ok-log.ensures.calls) refl
