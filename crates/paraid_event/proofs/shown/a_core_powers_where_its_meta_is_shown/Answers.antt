use Rattle.paraid_event.specs.Lost.{TellsTwo}
use Rattle.paraid_event.proofs.GivenStepLemmas.{powers_lost_shown, powers_shown}
use Rattle.paraid_event.proofs.shown.a_core_powers_where_its_meta_is_shown.Goals as goal

pub returns : goal.returns
returns c = record {
  ends = λ told told_then k k_then powers h lo out slot slot_then is_out agrees agrees_then marks named not_fresh turned empty empty_then calls stays.
      powers_shown told told_then k k_then h lo lo out is_out slot slot_then agrees agrees_then marks named powers not_fresh turned empty empty_then calls stays;
  loses = λ told told_then k two h lo out is_out empty calls stays tells. powers_lost_shown told told_then k h lo out is_out (TellsTwo k two) empty calls stays tells;
}
