use Rattle.std.specs.Prelude.{false}
use Rattle.paraid_core.specs.CellCopies.{KeepsCellCopies}
use Rattle.paraid_event.specs.Powering.{ServiceRests}
use Rattle.paraid_event.proofs.GivenStepLemmas.{between_shown, commit_marked, commit_shown}
use Rattle.paraid_event.proofs.ShownLemmas.{shown_rests, shown_stands}
use Rattle.paraid_event.proofs.shown.a_core_serves_where_its_meta_is_shown.Goals as goal

pub returns : goal.returns
returns c = record {
  shift = λ told told_then k k_then h lo lo_then out slot slot_then is_out agrees agrees_then marks named calls stands.
      between_shown told told_then k k_then h lo lo_then out is_out slot slot_then agrees agrees_then marks named (KeepsCellCopies k.slots k.named k.meta k.table k.batch k.copied h lo (λ r d. false)) (λ s z shows. shown_stands k h lo s z shows) calls stands;
  rests = λ told told_then k k_then h lo lo_then out slot slot_then is_out agrees agrees_then marks named nothing calls stands.
      between_shown told told_then k k_then h lo lo_then out is_out slot slot_then agrees agrees_then marks named (ServiceRests k h lo) (λ s z shows. shown_rests k h lo s z shows nothing) calls stands;
  commit = λ told told_then k k_then h lo lo_then out slot slot_then is_out agrees agrees_then marks named calls stands whole.
      commit_shown told told_then k k_then h lo lo_then out is_out slot slot_then agrees agrees_then marks named calls stands whole;
  marked = λ told told_then k k_then h lo lo_then out slot slot_then is_out agrees agrees_then marks named calls stands whole.
      commit_marked told told_then k k_then h lo lo_then out is_out slot slot_then agrees agrees_then marks named calls stands whole;
}
