use Rattle.paraid_event.proofs.IdleLemmas.{ration_turn, steady_turn, waiting_turn}
use Rattle.paraid_event.proofs.idle.a_tick_has_nothing_to_do.Goals as goal

pub returns : goal.returns
returns c = record {
  steady = λ told k k_then setup p at fit counts no_out steady stay. steady_turn told k k_then setup p at counts fit no_out steady stay;
  waiting = λ told k k_then setup p d at fit counts out. waiting_turn told k k_then setup p at counts fit d out;
  ration = λ told k k_then setup p to d at fit counts no_out steady down used. ration_turn told k k_then setup p at counts fit no_out steady to d down used;
}
