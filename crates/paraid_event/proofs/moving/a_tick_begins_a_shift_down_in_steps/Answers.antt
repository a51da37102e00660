use Rattle.paraid_event.proofs.TickDownStepLemmas.{down_lost, down_turn}
use Rattle.paraid_event.proofs.moving.a_tick_begins_a_shift_down_in_steps.Goals as goal

pub returns : goal.returns
returns c = record {
  begun = λ told told_then k k1 k2 setup p most to at fit counts no_out steady lower down unworn synced goes_to energy few steps.
      down_turn told k k1 setup p at counts fit no_out steady to down unworn lower k2 synced goes_to energy most few told_then steps;
  loses = λ told told_then k k1 setup p most to two at fit counts no_out steady down unworn few loses.
      down_lost told k k1 setup p at counts fit no_out steady to down unworn two most few told_then loses;
}
