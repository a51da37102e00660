use Rattle.paraid_event.proofs.RebuildFinishLemmas.{finish_loses_turn, one_call_loses_one}
use Rattle.paraid_event.proofs.ends.a_second_loss_ends_the_last_tick_of_a_rebuild.Goals as goal

pub returns : goal.returns
returns c = record {
  finish = λ told before told_then k counted j setup p d rebuilt most two at fit fresh counts few steps loses. finish_loses_turn told k counted setup p at d rebuilt fresh counts fit before told_then j most few steps two loses;
  park = λ mid told_then d two calls loses. one_call_loses_one mid told_then d two calls loses;
}
