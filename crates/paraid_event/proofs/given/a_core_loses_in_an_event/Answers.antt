use Rattle.paraid_event.specs.Lost.{TellsTwo}
use Rattle.paraid_event.proofs.GivenLemmas.{between_loses, commit_loses}
use Rattle.paraid_event.proofs.given.a_core_loses_in_an_event.Goals as goal

pub returns : goal.returns
returns c = record {
  between = λ told told_then k two h lo out is_out calls moments tells. between_loses told told_then k k h lo h lo out is_out (TellsTwo k two) calls moments tells;
  commit = λ told told_then k two h lo out is_out calls moments whole tells. commit_loses told told_then k k h lo h lo out is_out (TellsTwo k two) calls moments whole tells;
}
