use Rattle.std.proofs.Common.{sym, ◌∙◌, rules, w64, SFits}
use Rattle.std.proofs.lemmas.Int.{to_z-of_z}
use Rattle.paraid_config.proofs.ListLemmas.{AreIntegers-none, AreIntegers-more, AreIntegers-end, members_fault-kind}
use Rattle.paraid_config.proofs.list.integers.Goals as goal

pub loop-item-init : goal.loop-item-init
loop-item-init c = AreIntegers-none _ _ c.new-members.ensures.items

pub loop-item-preserved : goal.loop-item-preserved
loop-item-preserved c =
    let fits : SFits w64 c.in-Some.member = search rules in
    rw (c.in-Ok.ensures.items, to_z-of_z w64 c.in-Some.member fits) (AreIntegers-more _ c.args.items.now c.loop-item.item-index c.item-item.result c.loop-item.members.items c.loop-item-test.true c.item-item.is c.loop-item.invariant c.in-Some.member (sym c.as_integer.ensures ∙ c.in-Some.is))

pub returns-in_default-clause-err : goal.returns-in_default-clause-err
returns-in_default-clause-err c few many =
    members_fault-kind _ c.args.items.now c.loop-item.item-index c.item-item.result c.loop-item.members.items c.loop-item-test.true c.item-item.is c.loop-item.invariant c.args.key few many (sym c.as_integer.ensures ∙ c.in_default.is)

pub returns-clause-value : goal.returns-clause-value
returns-clause-value c =
    AreIntegers-end c.args.items.now c.loop-item.item-index c.loop-item.members.items c.loop-item.invariant c.loop-item-test.false
