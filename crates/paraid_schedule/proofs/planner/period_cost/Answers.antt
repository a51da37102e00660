use Rattle.std.proofs.Common.{◌-◌, refl, arith}
use Rattle.paraid_schedule.proofs.LoadLemmas.{product_fits, sum_fits, period_cost_low}
use Rattle.paraid_schedule.proofs.planner.period_cost.Goals as goal

pub overflow_mul-result : goal.overflow_mul-result
overflow_mul-result c = product_fits c.args.gear c.args.setup.now.spinning_mj (omega arith) (omega arith)

pub overflow_mul-result-2 : goal.overflow_mul-result-2
overflow_mul-result-2 c =
    let s = c.args.setup.now in
    product_fits (s.geometry.disks - c.args.gear) s.parked_mj (omega arith) (omega arith)

pub overflow_add-result : goal.overflow_add-result
overflow_add-result c =
    let s = c.args.setup.now in
    sum_fits c.args.gear (s.geometry.disks - c.args.gear) s.spinning_mj s.parked_mj (omega arith) (omega arith) (omega arith) (omega arith)

pub returns : goal.returns
returns c = record { value = refl; small = period_cost_low c.args.setup.now c.args.gear c.requires (omega arith) (omega arith) }
