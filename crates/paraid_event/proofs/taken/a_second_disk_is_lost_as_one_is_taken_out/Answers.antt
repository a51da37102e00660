use Rattle.paraid_event.proofs.TakenLemmas.{marked_lost, staged_lost}
use Rattle.paraid_event.proofs.taken.a_second_disk_is_lost_as_one_is_taken_out.Goals as goal

pub returns : goal.returns
returns c = record {
  staged = λ told told_then k setup p two d at fit below no_out ran. staged_lost told k setup p at d below no_out two fit told_then ran;
  marked = λ told mid told_then k k1 k2 setup p two d at fit below no_out marks first mark second. marked_lost told k setup p at d below no_out two fit k1 k2 marks mid told_then first mark second;
}
