use Rattle.paraid_event.proofs.HinderedLemmas.{down_hindered, fail_hindered, up_hindered}
use Rattle.paraid_event.proofs.hindered.a_lost_disk_hinders_an_event.Goals as goal

pub returns : goal.returns
returns c = record {
  fail = λ told told_then k k_then setup p d e lo at fit low no_out lost apart counts le ran. fail_hindered told told_then k k_then setup p at e lo fit no_out lost counts le d low apart ran;
  up = λ told told_then k k_then setup p to e lo at fit some steady no_out lost counts le ran. up_hindered told told_then k k_then setup p at e lo fit no_out lost counts le to some steady ran;
  down = λ told told_then k k_then setup p to e lo at fit some steady no_out none lost counts le ran. down_hindered told told_then k k_then setup p at e lo fit no_out lost counts le to some steady none ran;
}
