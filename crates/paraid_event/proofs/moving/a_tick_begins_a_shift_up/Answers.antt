use Rattle.paraid_event.proofs.TickStepLemmas.{up_lost, up_turn}
use Rattle.paraid_event.proofs.moving.a_tick_begins_a_shift_up.Goals as goal

pub returns : goal.returns
returns c = record {
  begun = λ told told_then k k1 k2 setup p most to at fit counts no_out steady up synced starts energy few steps.
      up_turn told k k1 setup p at counts fit no_out steady to up k2 synced starts energy most few told_then steps;
  loses = λ told told_then k k1 setup p most to energy two at fit counts no_out steady up which few loses.
      up_lost told k k1 setup p at counts fit no_out steady to up two energy which most few told_then loses;
}
