use Rattle.paraid_moves.proofs.RangeLemmas.{down_in_range, filled_in_range, flip_in_range, join_in_range, later_in_range, out_in_range, units_in_range, up_in_range}
use Rattle.paraid_moves.proofs.laws.the_marks_of_moves_are_in_range.Goals as goal

pub returns : goal.returns
returns c = record {
  down = down_in_range;
  up = up_in_range;
  filled = filled_in_range;
  flip = flip_in_range;
  out = out_in_range;
  units = units_in_range;
  joins = join_in_range;
  later = later_in_range;
}
