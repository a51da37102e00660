use Rattle.paraid_moves.proofs.FailLemmas.{fails, marks_gone}
use Rattle.paraid_moves.proofs.laws.a_disk_can_be_marked_out.Goals as goal

pub returns : goal.returns
returns c = record { out = marks_gone; failed = fails }
