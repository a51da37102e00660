use Rattle.paraid_event.proofs.ShiftStepLemmas.{down_in_steps, ends_in_steps, up_in_steps}
use Rattle.paraid_event.proofs.turning.a_shift_begins_and_ends_in_steps.Goals as goal

pub returns : goal.returns
returns c = record {
  ended = λ told mid opened_told told_then i k j opened k_then powers h lo lo_then most to whole slots named stands is le same more_slots more first second third.
      ends_in_steps told mid i k j h lo most whole slots named stands powers to is opened_told told_then opened k_then lo_then le same more_slots more first second third;
  down = λ told mid told_then i k j k_then h lo lo_then most to whole slots named stands steady is le same more first second.
      down_in_steps told mid i k j h lo most whole slots named stands to steady is told_then k_then lo_then le same more first second;
  up = λ told mid opened_told told_then i k j opened k_then h lo lo_then most to spins whole slots named stands is raised others le same more_slots more first second third.
      up_in_steps told mid i k j h lo most whole slots named stands to spins is raised others opened_told told_then opened k_then lo_then le same more_slots more first second third;
}
