use Rattle.paraid_words.proofs.WordLemmas.{exact}
use Rattle.paraid_words.proofs.words.read_words.Goals as goal

pub returns : goal.returns
returns c = record { exact = λ x. exact c.command.result _ x c.command.ensures }
