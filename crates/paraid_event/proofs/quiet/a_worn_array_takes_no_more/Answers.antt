use Rattle.paraid_event.proofs.QuietLemmas.{worn_turn}
use Rattle.paraid_event.proofs.quiet.a_worn_array_takes_no_more.Goals as goal

pub returns : goal.returns
returns c told k setup p event at not_bad asked many = worn_turn told k setup p at event not_bad asked many
