use Rattle.paraid_txn.proofs.HeldCommitLemmas.{held_commits}
use Rattle.paraid_txn.proofs.laws.a_commit_leaves_what_is_held.Goals as goal

pub returns : goal.returns
returns c slots s t before after batch h lo down old new began one_down moment = held_commits slots s before after batch h lo old new began t down one_down moment
