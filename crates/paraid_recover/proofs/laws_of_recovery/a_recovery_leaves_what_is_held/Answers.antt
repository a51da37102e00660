use Rattle.paraid_recover.proofs.EndsLemmas.{ends_resumed, then_marked}
use Rattle.paraid_recover.proofs.RecoverLemmas.{grows, resumes_held}
use Rattle.paraid_recover.proofs.QuietCallsLemmas.{quiet_recovers}
use Rattle.paraid_recover.proofs.laws_of_recovery.a_recovery_leaves_what_is_held.Goals as goal

pub returns-clause-refused : goal.returns-clause-refused
returns-clause-refused c = resumes_held

pub returns-clause-resumed : goal.returns-clause-resumed
returns-clause-resumed c slots x said old new resume settles =
    let holds = resumes_held slots x said old new resume in
    record { grows = grows resume; holds = holds; ends = ends_resumed slots x said old new holds settles }

pub returns-clause-calls : goal.returns-clause-calls
returns-clause-calls c = quiet_recovers

pub returns-clause-marked : goal.returns-clause-marked
returns-clause-marked c slots x said old mid new d low only gone second recovers after =
    then_marked slots x said old mid new d low only gone second recovers.holds recovers.ends after
