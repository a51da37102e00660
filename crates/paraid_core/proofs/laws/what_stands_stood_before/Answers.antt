use Rattle.paraid_core.proofs.StoodLemmas.{stood_by_call, stood_by_park, stood_by_spin_up}
use Rattle.paraid_core.proofs.laws.what_stands_stood_before.Goals as goal

pub returns : goal.returns
returns c = record { past_log = stood_by_call; park = stood_by_park; spin_up = stood_by_spin_up }
