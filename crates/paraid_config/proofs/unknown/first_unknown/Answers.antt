use Rattle.std.proofs.Common.{◌≤◌, arith, sym, ◌∙◌}
use Rattle.paraid_config.proofs.KeyLemmas.{few_unknown, position-names}
use Rattle.paraid_config.proofs.unknown.first_unknown.Goals as goal

pub overflow_cast-result : goal.overflow_cast-result
overflow_cast-result c =
    let few : c.in-Some.at ≤ 15 = few_unknown c.args.table.now.entries c.in-Some.at c.len-ordered.ensures.ordered (sym c.in-Some.ensures) in
    omega arith

pub returns-in-Some : goal.returns-in-Some
returns-in-Some c = c.in-Some.ensures ∙ position-names c.args.table.now.entries

pub returns-in-None : goal.returns-in-None
returns-in-None c = c.in-None.ensures ∙ position-names c.args.table.now.entries
