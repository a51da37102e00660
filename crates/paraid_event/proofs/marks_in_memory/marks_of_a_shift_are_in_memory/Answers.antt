use Rattle.paraid_event.proofs.ShiftMarkLemmas.{down_mark, down_powers, filled_mark, flipped_mark, rebuilt_mark, shown_settled, up_mark, up_powers}
use Rattle.paraid_event.proofs.marks_in_memory.marks_of_a_shift_are_in_memory.Goals as goal

pub returns : goal.returns
returns c = record {
  filled = λ k j fill slots named whole is. filled_mark k j slots named fill whole is;
  flipped = λ k j to slots named whole is. flipped_mark k j slots named to whole is;
  down = λ k j to slots named whole is. down_mark k j slots named to whole is;
  up = λ k j to spins slots named whole is raised others. up_mark k j slots named to spins whole is raised others;
  rebuilt = λ k j disk was units slots named fresh settled is. rebuilt_mark k j slots named disk was units fresh settled is;
  settled = λ power base m shows. shown_settled power base m shows;
  down_powers = λ m to d steady. down_powers m to d steady;
  up_powers = λ m to d up le. up_powers m to d up le;
}
