use Rattle.paraid_event.proofs.RebuildFinishLemmas.{back_turn}
use Rattle.paraid_event.proofs.ends.a_tick_ends_a_rebuild.Goals as goal

pub returns : goal.returns
returns c = record {
  back = λ told before mid told_then k counted j back k_then setup p d rebuilt most at fit fresh counts marks left few steps finish park. back_turn told k counted setup p at d rebuilt fresh counts.counts fit before mid told_then j back k_then most few counts steps marks left finish park;
}
