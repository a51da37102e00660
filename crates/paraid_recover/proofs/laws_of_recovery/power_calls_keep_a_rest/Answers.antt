use Rattle.paraid_recover.proofs.TurnsLemmas.{turns_end, turns_hold, turns_ran}
use Rattle.paraid_recover.proofs.laws_of_recovery.power_calls_keep_a_rest.Goals as goal

pub returns-clause-rests : goal.returns-clause-rests
returns-clause-rests c = turns_ran

pub returns-clause-recovers : goal.returns-clause-recovers
returns-clause-recovers c = turns_hold

pub returns-clause-ends : goal.returns-clause-ends
returns-clause-ends c = turns_end
