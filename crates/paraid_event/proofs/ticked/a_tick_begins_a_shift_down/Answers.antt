use Rattle.paraid_event.proofs.TickBeginLemmas.{tick_told}
use Rattle.paraid_event.proofs.ticked.a_tick_begins_a_shift_down.Goals as goal

pub returns : goal.returns
returns c told told_then k k1 k2 k3 setup p to lo3 at fit begins lower steady no_out down unworn le3 marks ran =
    tick_told told k k1 k2 setup p at to begins.counts begins.mark fit lower steady no_out down unworn k3 begins lo3 le3 told_then marks ran
