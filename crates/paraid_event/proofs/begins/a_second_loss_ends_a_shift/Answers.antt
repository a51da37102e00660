use Rattle.paraid_event.proofs.BeginLemmas.{begun_loses, down_loses, up_loses}
use Rattle.paraid_event.proofs.begins.a_second_loss_ends_a_shift.Goals as goal

pub returns : goal.returns
returns c = record {
  up = λ told told_then k setup p to two at fit some steady no_out ran. up_loses told k setup p at to steady no_out told_then two fit ran some;
  down = λ told told_then k setup p to two at fit some steady no_out unworn ran. down_loses told k setup p at to steady no_out told_then two fit ran some unworn;
  down_marked = λ told mid told_then k committed begun setup p to lo two at fit shift some steady no_out unworn le first marks second.
      begun_loses told k committed begun setup p at to shift some steady no_out unworn lo le two fit mid told_then first marks second;
}
