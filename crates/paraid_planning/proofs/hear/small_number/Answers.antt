use Rattle.paraid_planning.proofs.SpokenLemmas.{printed, too_large, unread}
use Rattle.paraid_planning.proofs.hear.small_number.Goals as goal

pub returns-in-Some-clause-some : goal.returns-in-Some-clause-some
returns-in-Some-clause-some c = (c.if-number-le-MOST_REQUESTS.true, printed c.args.line.now c.number.result c.in-Some.number c.number.ensures c.in-Some.is)

pub returns-in_default-clause-none : goal.returns-in_default-clause-none
returns-in_default-clause-none c = too_large c.args.line.now c.number.result c.in-Some.number c.number.ensures c.in-Some.is c.if-number-le-MOST_REQUESTS.false

pub returns-in_default-2-clause-none : goal.returns-in_default-2-clause-none
returns-in_default-2-clause-none c = unread c.args.line.now c.number.result c.number.ensures c.in_default.is
