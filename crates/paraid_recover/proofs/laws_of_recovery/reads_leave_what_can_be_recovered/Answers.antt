use Rattle.paraid_recover.proofs.ExaminedHeldLemmas.{start_broken, start_held, start_weak}
use Rattle.paraid_recover.proofs.laws_of_recovery.reads_leave_what_can_be_recovered.Goals as goal

pub returns : goal.returns
returns c slots x said s t h lo was down synced empty weak held among absent stands = (
  start_broken slots s h lo was down synced empty weak held t among absent x said stands,
  start_held slots s h lo was down synced empty weak held t among absent,
  start_weak slots s h lo was down synced empty weak held t among absent,
)
