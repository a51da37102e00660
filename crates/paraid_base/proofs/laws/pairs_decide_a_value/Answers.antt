use Rattle.paraid_base.proofs.PairsLemmas.{pairs_decide, pairs_of-with}
use Rattle.paraid_base.proofs.laws.pairs_decide_a_value.Goals as goal

pub returns-clause-one : goal.returns-clause-one
returns-clause-one c = pairs_decide

pub returns-clause-value : goal.returns-clause-value
returns-clause-value c = pairs_of-with
