use Rattle.std.proofs.Common.{sym, ◌∙◌}
use Rattle.paraid_base.proofs.XorLemmas.{same_block}
use Rattle.paraid_recover.proofs.alike.is_same_at.Goals as goal

pub returns-clause-block : goal.returns-clause-block
returns-clause-block c is =
    sym c.block.ensures ∙ same_block _ _ (c.is_same_block.ensures.yes is) ∙ c.block-2.ensures
