use Rattle.paraid_recover.proofs.SetupLemmas.{setup_kept, still_stands}
use Rattle.paraid_recover.proofs.laws_of_mounts.reads_keep_the_setup.Goals as goal

pub returns : goal.returns
returns c slots s h lo down base rs x side said after start each stands then_stands = (
  setup_kept slots s h lo down start base rs each x said stands side after then_stands,
  still_stands slots s h lo down start base rs each x said stands side after then_stands,
)
