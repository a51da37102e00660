use Rattle.std.proofs.Common.{◌-◌, refl, arith}
use Rattle.paraid_schedule.proofs.LoadLemmas.{product_fits, product_low}
use Rattle.paraid_schedule.proofs.check.step_of.Goals as goal

pub overflow_sub-result : goal.overflow_sub-result
overflow_sub-result c = c.requires

pub overflow_mul-result : goal.overflow_mul-result
overflow_mul-result c = product_fits (c.args.b - c.args.a) c.args.setup.now.spinup_mj (omega arith) (omega arith)

pub returns : goal.returns
returns c = record { value = refl; small = product_low (c.args.b - c.args.a) c.args.setup.now.spinup_mj (omega arith) (omega arith) }
