use Rattle.std.proofs.Common.{pos, get_or, rules, w64, SFits, sym}
use Rattle.std.proofs.lemmas.Int.{to_z-of_z}
use Rattle.paraid_config.proofs.FaultLemmas.{IsFaultOf-cause}
use Rattle.paraid_config.proofs.ListLemmas.{fits_half, members_before, AreRead_wide, AreRead_all, AreRead-accepted}
use Rattle.paraid_config.proofs.list.members_in_range.Goals as goal

pub returns-in-Err-clause-err : goal.returns-in-Err-clause-err
returns-in-Err-clause-err c =
    let fits : SFits w64 (get_or c.args.members.now c.loop-member.member-index (pos 0)) = search rules in
    let same = to_z-of_z w64 (get_or c.args.members.now c.loop-member.member-index (pos 0)) fits in
    IsFaultOf-cause _ _ (members_before c.args.key c.args.members.now c.loop-member.numbers.items c.loop-member.member-index _ c.in-Err.fault c.loop-member.invariant c.loop-member-test.true (sym same) c.in-Err.ensures.err)

pub loop-member-preserved : goal.loop-member-preserved
loop-member-preserved c =
    let fits : SFits w64 (get_or c.args.members.now c.loop-member.member-index (pos 0)) = search rules in
    rw c.in-Ok-push.ensures.items (AreRead_wide c.args.key c.args.members.now c.loop-member.numbers.items c.loop-member.member-index c.in-Ok.number c.loop-member.invariant c.loop-member-test.true fits c.in-Ok.ensures.value c.in-Ok.ensures.high c.in-Ok.ensures.accepted)

pub overflow_cast-number : goal.overflow_cast-number
overflow_cast-number c = fits_half c.in-Ok.number _ c.in-Ok.ensures.high c.requires

pub returns-clause-value : goal.returns-clause-value
returns-clause-value c =
    AreRead_all c.args.key c.args.members.now c.loop-member.numbers.items c.loop-member.member-index c.loop-member.invariant c.loop-member-test.false

pub returns-clause-accepted : goal.returns-clause-accepted
returns-clause-accepted c =
    AreRead-accepted c.args.key c.args.members.now c.loop-member.numbers.items c.loop-member.member-index c.loop-member.invariant c.loop-member-test.false
