use Rattle.paraid_image.proofs.CutLemmas.{held_cut}
use Rattle.paraid_image.proofs.laws.what_stands_is_held.Goals as goal

pub returns : goal.returns
returns c slots s h lo k down whole lost held = held_cut slots h lo k s down whole lost held
