use Rattle.std.proofs.Common.{arith}
use Rattle.paraid_schedule.proofs.RowLemmas.{row_start-end}
use Rattle.paraid_schedule.proofs.check.start_of.Goals as goal

pub bounds-bounds-row : goal.bounds-bounds-row
bounds-bounds-row c =
    let g = c.args.setup.now.geometry in
    omega (arith, c.row.ensures.value, row_start-end g c.args.ups 0 0 g.disks g.last (omega arith))
