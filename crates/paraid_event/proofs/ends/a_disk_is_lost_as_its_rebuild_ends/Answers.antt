use Rattle.paraid_event.proofs.RebuildFinishLemmas.{finish_gone_steps, park_failed_steps}
use Rattle.paraid_event.proofs.ends.a_disk_is_lost_as_its_rebuild_ends.Goals as goal

pub returns : goal.returns
returns c = record {
  finish = λ told before told_then k j k_then h lo most d named gone steps finish. finish_gone_steps told before told_then k j k_then h lo most d steps named gone finish;
  park = λ told before mid told_then k j back k_then h lo most d named none_out gone steps finish park. park_failed_steps told before mid k j back h lo most d steps told_then k_then named none_out gone finish park;
}
