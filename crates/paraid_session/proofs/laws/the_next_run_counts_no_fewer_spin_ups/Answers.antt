use Rattle.paraid_session.proofs.RunStartLemmas.{next_base}
use Rattle.paraid_session.proofs.laws.the_next_run_counts_no_fewer_spin_ups.Goals as goal

pub returns : goal.returns
returns c slots h lo b w i x said base ticks d kept serving looked stands is high below here not =
    next_base slots h lo b w kept serving x i said base ticks looked stands is d high below here not
