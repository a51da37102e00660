use Rattle.paraid_serve.proofs.OneAnswerLemmas.{one_answer}
use Rattle.paraid_serve.proofs.laws.an_event_without_a_failure_has_one_answer.Goals as goal

pub returns : goal.returns
returns c = one_answer
