use Rattle.paraid_moves.proofs.BetweenLemmas.{copies_attached, copies_parked, copies_spun}
use Rattle.paraid_moves.proofs.RunLemmas.{copies_lost, copies_read, copies_sync, copies_write}
use Rattle.paraid_moves.proofs.between.calls_between_commits_leave_copies.Goals as goal

pub returns : goal.returns
returns c = record {
  read = copies_read;
  sync = copies_sync;
  write = copies_write;
  park = copies_parked;
  spin_up = copies_spun;
  attach = copies_attached;
  failed = copies_lost;
}
