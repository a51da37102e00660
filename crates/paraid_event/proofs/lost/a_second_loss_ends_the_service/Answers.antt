use Rattle.paraid_event.proofs.LostLemmas.{flush_loses, read_loses, write_loses}
use Rattle.paraid_event.proofs.lost.a_second_loss_ends_the_service.Goals as goal

pub returns : goal.returns
returns c = record {
  read = λ told told_then k setup p two block at there fit ran. read_loses told told_then k setup p at two block there fit ran;
  write = λ told told_then k setup p two pairs at there fit ran. write_loses told told_then k setup p at two pairs there fit ran;
  flush = λ told told_then k setup p two at fit ran. flush_loses told told_then k setup p at two fit ran;
}
