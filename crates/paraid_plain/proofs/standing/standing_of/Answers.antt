use Rattle.paraid_plain.proofs.StatementLemmas.{neither_stands, value_of_none, value_of_some}
use Rattle.paraid_plain.proofs.standing.standing_of.Goals as goal

pub returns-in-Some-clause-value : goal.returns-in-Some-clause-value
returns-in-Some-clause-value c = value_of_some c.args.image.now c.in-Some.says c.in-Some.ensures.some

pub returns-in-None-clause-none : goal.returns-in-None-clause-none
returns-in-None-clause-none c = neither_stands c.args.image.now c.standing_at-in-None.result c.in-None.ensures.none c.standing_at-in-None.ensures.none

pub returns-in-None-clause-value : goal.returns-in-None-clause-value
returns-in-None-clause-value c =
    value_of_none c.args.image.now c.standing_at-in-None.result c.in-None.ensures.none c.standing_at-in-None.ensures.none c.standing_at-in-None.ensures.some
