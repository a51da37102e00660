use Rattle.paraid_serve.proofs.OwedLemmas.{kind_by}
use Rattle.paraid_serve.proofs.laws.an_answer_is_of_its_events_kind.Goals as goal

pub returns : goal.returns
returns c = kind_by
