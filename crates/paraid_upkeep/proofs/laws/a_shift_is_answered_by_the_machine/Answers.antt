use Rattle.paraid_upkeep.proofs.MachineLemmas.{down_begins, down_stays, up_begins, up_stays}
use Rattle.paraid_upkeep.proofs.laws.a_shift_is_answered_by_the_machine.Goals as goal

pub returns : goal.returns
returns c = record { down = down_begins; down_refused = down_stays; up = up_begins; up_refused = up_stays }
