use Rattle.std.proofs.Common.{arith}
use Rattle.paraid_plan.proofs.cell.has_parity.Goals as goal
use Rattle.paraid_base.proofs.RegionsLemmas.{stripe_count_small}

pub overflow_add-m : goal.overflow_add-m
overflow_add-m c =
    let shape = c.args.m.now.setup.geometry in
    let low = shape.gears_low c.args.m.now.gear c.requires.in_range.gear in
    let high = shape.gears_high c.args.m.now.gear c.requires.in_range.gear in
    let few = stripe_count_small shape.disks shape.rows c.args.m.now.gear low high shape.disks_high shape.rows_high in
    let rows = shape.rows_high in
    let within = c.soft_of-s.ensures.stripe_in in
    omega arith
