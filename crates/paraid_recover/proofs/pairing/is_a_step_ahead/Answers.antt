use Rattle.paraid_recover.proofs.PairingLemmas.{meta_ahead, step_ahead}
use Rattle.paraid_recover.proofs.pairing.is_a_step_ahead.Goals as goal

pub returns-else-is_same_meta-clause-yes : goal.returns-else-is_same_meta-clause-yes
returns-else-is_same_meta-clause-yes c is a b = meta_ahead c.args.opened.now c.args.closed.now a b (c.is_next.ensures.yes is a b)

pub returns-else-is_same_meta-clause-no : goal.returns-else-is_same_meta-clause-no
returns-else-is_same_meta-clause-no c is a b =
    step_ahead c.args.opened.now c.args.closed.now a b (c.is_same_meta.ensures.no c.if-is_same_meta.false) (c.is_next.ensures.no is a b)
