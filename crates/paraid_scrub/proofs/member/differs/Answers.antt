use Rattle.paraid_scrub.proofs.LookedLemmas.{differs}
use Rattle.paraid_scrub.proofs.member.differs.Goals as goal

pub returns : goal.returns
returns c = differs c.is_zero.result c.args.a.now c.args.b.now _ c.xor_into.ensures c.is_zero.ensures
