use Rattle.paraid_moves.proofs.MoveLemmas.{begins_down, begins_up}
use Rattle.paraid_moves.proofs.laws.a_shift_can_begin.Goals as goal

pub returns : goal.returns
returns c = record { down = begins_down; up = begins_up }
