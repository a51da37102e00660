use Rattle.paraid_recover.proofs.ForeseenLemmas.{foreseen_within}
use Rattle.paraid_recover.proofs.laws_of_mounts.what_is_foreseen_is_within_bounds.Goals as goal

pub returns : goal.returns
returns c slots s h lo down x side said after base ticks rs i m start stands is_base each serving broken foreseen =
    foreseen_within slots s h lo down start x said stands base rs each side after broken.log.stands serving ticks is_base broken.log.single i m foreseen
