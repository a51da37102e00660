use Rattle.paraid_recover.proofs.BaseLemmas.{some_base}
use Rattle.paraid_recover.proofs.laws_of_mounts.a_run_begins_with_a_base.Goals as goal

pub returns : goal.returns
returns c slots s h lo down x said start stands = some_base slots s h lo down start x said stands
