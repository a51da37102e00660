use Rattle.std.proofs.Common.{rules, refl}
use Rattle.paraid_imgrack.proofs.NamedLemmas.{one_of_array-other, one_of_array-past, one_of_array-yes}
use Rattle.paraid_imgrack.proofs.identity.count_in.Goals as goal

pub returns-in-Some : goal.returns-in-Some
returns-in-Some c = one_of_array-yes c.args.named.now c.in-Some.label c.args.slot _ (search rules) (search rules) (search rules)

pub returns-in_default : goal.returns-in_default
returns-in_default c = one_of_array-other c.args.named.now c.in-Some.label c.args.slot _ (search rules) (search rules)

pub returns-in_default-2 : goal.returns-in_default-2
returns-in_default-2 c = one_of_array-past c.args.named.now c.in-Some.label c.args.slot _ (search rules) (search rules)

pub returns-in_default-3 : goal.returns-in_default-3
returns-in_default-3 c = rw c.in_default.is refl
