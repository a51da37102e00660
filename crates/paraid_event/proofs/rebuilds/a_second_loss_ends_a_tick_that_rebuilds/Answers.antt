use Rattle.paraid_event.proofs.RebuildTickLemmas.{rebuild_loses}
use Rattle.paraid_event.proofs.rebuilds.a_second_loss_ends_a_tick_that_rebuilds.Goals as goal

pub returns : goal.returns
returns c told told_then k counted setup p d rebuilt most two at fit fresh counts few ran = rebuild_loses told k counted setup p at d rebuilt fresh counts fit most few two told_then ran
