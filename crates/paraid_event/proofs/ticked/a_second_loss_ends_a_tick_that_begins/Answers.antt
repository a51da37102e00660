use Rattle.paraid_event.proofs.TickBeginLemmas.{tick_loses}
use Rattle.paraid_event.proofs.ticked.a_second_loss_ends_a_tick_that_begins.Goals as goal

pub returns : goal.returns
returns c told told_then k k1 k2 setup p to two at fit counts mark lower steady no_out down unworn marks ran =
    tick_loses told k k1 k2 setup p at to counts mark fit lower steady no_out down unworn two told_then marks ran
