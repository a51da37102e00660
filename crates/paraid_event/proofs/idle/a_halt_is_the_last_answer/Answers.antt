use Rattle.paraid_event.proofs.IdleLemmas.{again_turn, bad_turn}
use Rattle.paraid_event.proofs.idle.a_halt_is_the_last_answer.Goals as goal

pub returns : goal.returns
returns c = record {
  again = λ told slots setup p event halt halted not_bad. again_turn told slots setup p event halt halted not_bad;
  bad = λ told slots setup p. bad_turn told slots setup p;
}
