use Rattle.paraid_event.proofs.GivenLemmas.{between_serves, commit_serves}
use Rattle.paraid_event.proofs.given.a_core_serves_an_event.Goals as goal

pub returns : goal.returns
returns c = record {
  between = λ told told_then k k_then h h_then lo lo_then out is_out calls stands marked. between_serves told told_then k k_then h lo h_then lo_then out is_out calls stands marked;
  commit = λ told told_then k k_then h h_then lo lo_then out is_out calls stands whole marked. commit_serves told told_then k k_then h lo h_then lo_then out is_out calls stands whole marked;
}
