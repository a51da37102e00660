use Rattle.std.proofs.Common.{◌+◌, Bool, ap, sym, ◌∙◌}
use Rattle.paraid_trace.specs.Asked.{if_read}
use Rattle.paraid_trace.proofs.GroupSteps.{group_found, to_end}
use Rattle.paraid_trace.proofs.line.group.Goals as goal

pub returns-clause-group : goal.returns-clause-group
returns-clause-group c =
    let text = c.args.text.now in
    let rest = to_end (c.in-Some.at + 1) text in
    let ends = rw rest at c.until_space-length.ensures.value in
    let read = rw rest at c.block.ensures in
    group_found text c.in-Some.at c.in-Some-number.number c.until_space-length.result c.block.new.into (sym c.first_space.ensures ∙ c.in-Some.is)
    (sym c.number.ensures ∙ c.in-Some-number.is) ends (read ∙ ap (λ (b : Bool). if_read b c.block.new.into) c.if-not-block.false)
