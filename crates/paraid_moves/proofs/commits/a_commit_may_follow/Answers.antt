use Rattle.paraid_moves.proofs.NextLemmas.{next_fresh, next_gone, next_joined, next_same}
use Rattle.paraid_moves.proofs.commits.a_commit_may_follow.Goals as goal

pub returns : goal.returns
returns c = record {
  same = λ s m t rest epoch setup out. next_same s m t epoch setup rest out;
  gone = λ s m t d rest epoch setup out one. next_gone s m t epoch setup rest d out one;
  fresh = λ s m t d units rest epoch setup out was shut. next_fresh s m t epoch setup rest d units out was shut;
  joined = λ s m t d units rest epoch setup out was. next_joined s m t epoch setup rest d units out was;
}
