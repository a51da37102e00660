use Rattle.paraid_event.proofs.UpshiftLemmas.{raised_told}
use Rattle.paraid_event.proofs.upshift.a_shift_up_begins.Goals as goal

pub returns : goal.returns
returns c told mid opened_told told_then k k1 k2 k3 k4 setup p to lo lo3 at fit begins some steady no_out le le3 first mark second third =
    raised_told told k k1 k2 setup p at to begins.marks some steady no_out lo le fit k3 k4 begins.opens begins.ends lo3 le3 mid opened_told told_then first mark second third
