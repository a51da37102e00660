use Rattle.paraid_moves.proofs.GroupLemmas.{group_holds, stripes_group_holds}
use Rattle.paraid_moves.proofs.commits.a_commit_of_marks_holds_the_history.Goals as goal

pub returns : goal.returns
returns c = record { marks = group_holds; stripes = stripes_group_holds }
