use Rattle.std.proofs.Common.{sym, ap, subst, ◌∙◌}
use Rattle.paraid_memrack.specs.declared.rack.MemRack.{MemRack}
use Rattle.paraid_memrack.specs.Lists.{noted_in}
use Rattle.paraid_memrack.specs.Rules.{told_of}
use Rattle.tests_lives.specs.Gathered.{TellsGathered, written_twice}
use Rattle.tests_lives.proofs.GatheredLemmas.{tells_gathered}
use Rattle.tests_lives.proofs.gathering.gather_writes.Goals as goal

pub returns : goal.returns
returns c =
    let calls = written_twice c.args.first.now c.args.second.now in
    let before = c.in-Ok-new.gathered in
    let after = c.write_twice.new.rack in
    let rack = c.into_rack-rack.ensures.rack in
    let above = c.in_ok-_above.ensures in
    let below = c.in_ok-_below.ensures in
    let noted = ap noted_in (sym c.log.ensures) ∙ above.1 in
    subst (λ (r : MemRack). TellsGathered calls (told_of r)) (sym rack)
    (tells_gathered calls (told_of before.rack) (noted_in before.log) (told_of after.rack) (noted_in after.log) below.0 above.0
    (ap told_of c.in-Ok-new.ensures.rack ∙ c.in-Ok.ensures.told) (ap noted_in c.in-Ok-new.ensures.log ∙ c.in-Ok-list.ensures ∙ c.in-Ok.ensures.told)
    (ap told_of (sym rack) ∙ below.1) noted c.in-Ok-write_twice.ensures (c.into_rack-rack.ensures.gathered below.0 above.0 below.1 noted))
