use Rattle.paraid_event.proofs.UpshiftLemmas.{opened_told, spun_told}
use Rattle.paraid_event.proofs.upshift.a_second_loss_ends_a_shift_up.Goals as goal

pub returns : goal.returns
returns c = record {
  marked = λ told mid told_then k k1 k2 setup p to lo two at fit up some steady no_out le first mark second.
      opened_told told k k1 k2 setup p at to up some steady no_out lo le fit two mid told_then first mark second;
  raised = λ told mid opened told_then k k1 k2 k3 setup p to lo lo3 two at fit up opens some steady no_out le le3 first mark second third.
      spun_told told k k1 k2 setup p at to up some steady no_out lo le fit two k3 opens lo3 le3 mid opened told_then first mark second third;
}
