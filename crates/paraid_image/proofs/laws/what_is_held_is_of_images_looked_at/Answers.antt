use Rattle.paraid_image.proofs.LookedLemmas.{held_of_looked, looked_of_held}
use Rattle.paraid_image.proofs.laws.what_is_held_is_of_images_looked_at.Goals as goal

pub returns : goal.returns
returns c = λ slots s h lo down. (looked_of_held slots s h lo down, held_of_looked slots s h lo down)
