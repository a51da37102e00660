use Rattle.paraid_config.proofs.ListLemmas.{AreRead}
use Rattle.paraid_config.proofs.list.members_in_range.Given as goal

abbrev pub invariant-loop-member : goal.invariant-loop-member
invariant-loop-member l = AreRead l.key l.members l.numbers.items l.member-index
