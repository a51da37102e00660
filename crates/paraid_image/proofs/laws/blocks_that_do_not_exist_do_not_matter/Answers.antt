use Rattle.paraid_image.proofs.AlikeLemmas.{contents_alike, held_alike, held_start, sound_alike, stands_alike, weak_alike}
use Rattle.paraid_image.proofs.laws.blocks_that_do_not_exist_do_not_matter.Goals as goal

pub returns : goal.returns
returns c = record {
  stands = stands_alike;
  contents = contents_alike;
  weak = weak_alike;
  sound = sound_alike;
  held = held_alike;
  start = held_start;
}
