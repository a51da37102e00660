use Rattle.std.proofs.Common.{arith}
use Rattle.paraid_schedule.proofs.EnergyLemmas.{period_small, ticked_total}
use Rattle.paraid_schedule.proofs.check.count_period.Goals as goal

pub returns-clause-total : goal.returns-clause-total
returns-clause-total c =
    ticked_total c.args.setup.now c.args.ledger.now c.tick.new.self c.args.gear c.requires.figures c.tick.ensures c.requires.room
    (period_small c.args.setup.now c.args.gear c.requires.gear (omega arith) (omega arith))

pub returns-clause-small : goal.returns-clause-small
returns-clause-small c =
    let small = period_small c.args.setup.now c.args.gear c.requires.gear (omega arith) (omega arith) in
    let total = ticked_total c.args.setup.now c.args.ledger.now c.tick.new.self c.args.gear c.requires.figures c.tick.ensures c.requires.room small in
    omega arith
