use Rattle.paraid_event.proofs.PointLemmas.{stands_mark, stands_resting}
use Rattle.paraid_event.proofs.point.a_core_stands_at_a_mark.Goals as goal

pub returns : goal.returns
returns c = record {
  mark = λ told k setup p at. stands_mark told k setup p at;
  rests = λ told k setup p at. stands_resting told k setup p at;
}
