use Rattle.std.proofs.Common.{◌≤◌, length, sym, ◌∙◌, ap, map, subst, ℕ, refl}
use Rattle.paraid_memrack.specs.Tells.{beginning_of}
use Rattle.paraid_memrack.proofs.RackLemmas.{starts, told_start, small_absent, sound_absent, length_absent}
use Rattle.paraid_memrack.proofs.LawfulLemmas.{lawful_untouched}
use Rattle.paraid_memrack.proofs.rack.MemRack.new.Goals as goal

pub invariant_of-result-clause-keeps : goal.invariant_of-result-clause-keeps
invariant_of-result-clause-keeps c =
    let log = c.in_ok-log.log in
    starts _ c.args.slots _ (told_start log.tells log.start.items log.calls.items c.args.slots c.in_ok-log.ensures.tells
    (ap (map beginning_of) c.in_ok-log.ensures.start ∙ c.in_ok-start.ensures) c.in_ok-log.ensures.calls) c.in_ok-slots.ensures.absent

pub returns-clause-told : goal.returns-clause-told
returns-clause-told c =
    let log = c.in_ok-log.log in
    told_start log.tells log.start.items log.calls.items c.args.slots c.in_ok-log.ensures.tells
    (ap (map beginning_of) c.in_ok-log.ensures.start ∙ c.in_ok-start.ensures) c.in_ok-log.ensures.calls

pub invariant_of-result-clause-sound : goal.invariant_of-result-clause-sound
invariant_of-result-clause-sound c =
    sound_absent c.in_ok-slots.slots.items c.in_ok-slots.ensures.absent (subst (λ (n : ℕ). n ≤ 8) (sym c.in_ok-slots.ensures.length) c.requires)

pub invariant_of-result-clause-small : goal.invariant_of-result-clause-small
invariant_of-result-clause-small c = small_absent c.in_ok-slots.slots.items c.in_ok-slots.ensures.absent

pub invariant_of-result-clause-same : goal.invariant_of-result-clause-same
invariant_of-result-clause-same c =
    ap length c.in_ok-log.ensures.start ∙ length_absent c.in_ok-start.start.items c.args.slots _ c.in_ok-start.ensures ∙ sym c.in_ok-slots.ensures.length

pub invariant_of-result-clause-lawful : goal.invariant_of-result-clause-lawful
invariant_of-result-clause-lawful c =
    let log = c.in_ok-log.log in
    lawful_untouched _ (told_start log.tells log.start.items log.calls.items c.args.slots c.in_ok-log.ensures.tells
    (ap (map beginning_of) c.in_ok-log.ensures.start ∙ c.in_ok-start.ensures) c.in_ok-log.ensures.calls) refl
