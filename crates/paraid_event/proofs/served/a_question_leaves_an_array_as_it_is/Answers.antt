use Rattle.paraid_event.proofs.EventLemmas.{energy_turn, state_turn}
use Rattle.paraid_event.proofs.served.a_question_leaves_an_array_as_it_is.Goals as goal

pub returns : goal.returns
returns c = record {
  state = λ told k setup p at. state_turn told k setup p at;
  energy = λ told k setup p at. energy_turn told k setup p at;
}
