use Rattle.std.proofs.Common.{sym, ◌∙◌}
use Rattle.paraid_dirty.proofs.BitsLemmas.{first_of_rest, none_in_rest, rest_is}
use Rattle.paraid_dirty.proofs.bits.first_bit.Goals as goal

pub returns-then-rest-eq0-clause-none : goal.returns-then-rest-eq0-clause-none
returns-then-rest-eq0-clause-none c =
    none_in_rest c.args.word c.args.from (sym (rest_is c.args.word c.args.from c.requires) ∙ c.if-rest-eq0.true)

pub returns-else-rest-eq0-clause-some : goal.returns-else-rest-eq0-clause-some
returns-else-rest-eq0-clause-some c =
    (first_of_rest c.args.word c.args.from _ c.requires (rest_is c.args.word c.args.from c.requires) c.if-rest-eq0.false).0
