use Rattle.paraid_event.proofs.ShownLemmas.{shown_rests, shown_stands}
use Rattle.paraid_event.proofs.marking.a_shown_meta_is_that_of_the_shift.Goals as goal

pub returns : goal.returns
returns c = record {
  stands = λ k h lo s z shows. shown_stands k h lo s z shows;
  rests = λ k h lo s z shows nothing. shown_rests k h lo s z shows nothing;
}
