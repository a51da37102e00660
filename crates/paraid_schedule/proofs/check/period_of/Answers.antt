use Rattle.std.proofs.Common.{◌-◌, refl, arith}
use Rattle.paraid_schedule.proofs.LoadLemmas.{product_fits, sum_fits, period_cost_low}
use Rattle.paraid_schedule.proofs.check.period_of.Goals as goal

pub overflow_mul-result : goal.overflow_mul-result
overflow_mul-result c = product_fits c.args.a c.args.setup.now.spinning_mj (omega arith) (omega arith)

pub overflow_mul-result-2 : goal.overflow_mul-result-2
overflow_mul-result-2 c =
    let s = c.args.setup.now in
    product_fits (s.geometry.disks - c.args.a) s.parked_mj (omega arith) (omega arith)

pub overflow_add-result : goal.overflow_add-result
overflow_add-result c =
    let s = c.args.setup.now in
    sum_fits c.args.a (s.geometry.disks - c.args.a) s.spinning_mj s.parked_mj (omega arith) (omega arith) (omega arith) (omega arith)

pub returns : goal.returns
returns c = record { value = refl; small = period_cost_low c.args.setup.now c.args.a c.requires (omega arith) (omega arith) }
