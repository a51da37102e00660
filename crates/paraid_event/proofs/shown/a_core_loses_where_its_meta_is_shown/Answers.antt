use Rattle.std.specs.Prelude.{false}
use Rattle.paraid_core.specs.CellCopies.{KeepsCellCopies}
use Rattle.paraid_event.specs.Lost.{TellsTwo}
use Rattle.paraid_event.specs.Powering.{ServiceRests}
use Rattle.paraid_event.proofs.GivenStepLemmas.{between_lost}
use Rattle.paraid_event.proofs.ShownLemmas.{shown_rests, shown_stands}
use Rattle.paraid_event.proofs.shown.a_core_loses_where_its_meta_is_shown.Goals as goal

pub returns : goal.returns
returns c = record {
  shift = λ told told_then k two h lo out is_out calls stands tells.
      between_lost told told_then k h lo out is_out (TellsTwo k two) (KeepsCellCopies k.slots k.named k.meta k.table k.batch k.copied h lo (λ r d. false)) (λ s z shows. shown_stands k h lo s z shows) calls stands tells;
  rests = λ told told_then k two h lo out is_out empty calls stands tells.
      between_lost told told_then k h lo out is_out (TellsTwo k two) (ServiceRests k h lo) (λ s z shows. shown_rests k h lo s z shows empty) calls stands tells;
}
