use Rattle.paraid_event.proofs.TickStepLemmas.{flipped_turn, lost_turn, move_lost, units_turn}
use Rattle.paraid_event.proofs.moving.a_tick_moves_a_shift.Goals as goal

pub returns : goal.returns
returns c = record {
  moving = λ told told_then k k1 k2 setup p most at fit counts no_out shifts energy synced few moves whole left steps.
      units_turn told k k1 setup p at counts fit no_out shifts k2 synced energy most few told_then moves whole left steps;
  lost = λ told told_then k k1 k2 setup p most m d at fit counts no_out shifts energy synced few moves le named steps.
      lost_turn told k k1 setup p at counts fit no_out shifts k2 synced energy most few told_then m d moves le named steps;
  ended = λ told told_then k k1 k2 setup p most at fit counts no_out shifts energy synced few ends last steps.
      flipped_turn told k k1 setup p at counts fit no_out shifts k2 synced energy most few told_then ends last steps;
  loses = λ told told_then k k1 setup p most two at fit counts no_out shifts few loses.
      move_lost told k k1 setup p at counts fit no_out shifts two most few told_then loses;
}
