use Rattle.paraid_moves.proofs.NextLemmas.{holds_now, rest_now}
use Rattle.paraid_moves.proofs.RunLemmas.{copies_held}
use Rattle.paraid_moves.proofs.between.copies_leave_what_is_held.Goals as goal

pub returns : goal.returns
returns c = record { held = copies_held; holds = holds_now; rest = rest_now }
