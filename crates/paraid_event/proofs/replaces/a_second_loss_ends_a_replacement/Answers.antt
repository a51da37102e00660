use Rattle.paraid_event.proofs.ReplacementToldLemmas.{loses_told}
use Rattle.paraid_event.proofs.replaces.a_second_loss_ends_a_replacement.Goals as goal

pub returns : goal.returns
returns c told told_then k setup p d two at fit below is_out loses = loses_told told k setup p at d below is_out fit two told_then loses
