use Rattle.paraid_event.proofs.RebuildTickLemmas.{gone_told, moving_told}
use Rattle.paraid_event.proofs.rebuilds.a_tick_moves_units_of_a_rebuild.Goals as goal

pub returns : goal.returns
returns c = record {
  moving = λ told told_then k counted k_then setup p d rebuilt most at fit fresh counts marks left few ran. moving_told told k counted setup p at d rebuilt fresh counts.counts fit most few k_then counts marks left told_then ran;
  gone = λ told told_then k counted k_then setup p d rebuilt most at fit fresh counts marks few absent ran. gone_told told k counted setup p at d rebuilt fresh counts.counts fit most few k_then counts marks told_then absent ran;
}
