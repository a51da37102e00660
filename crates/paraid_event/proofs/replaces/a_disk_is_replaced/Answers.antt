use Rattle.std.specs.Prelude.{true, false}
use Rattle.paraid_event.proofs.ReplacementToldLemmas.{replaces_told}
use Rattle.paraid_event.proofs.replaces.a_disk_is_replaced.Goals as goal

pub returns : goal.returns
returns c = record {
  fresh = λ told told_then k k_then setup p d at fit below is_out replaces out. replaces_told told k setup p at d below is_out fit true k_then told_then replaces out;
  gone = λ told told_then k k_then setup p d at fit below is_out replaces out. replaces_told told k setup p at d below is_out fit false k_then told_then replaces out;
}
