use Rattle.std.proofs.Common.{arith}
use Rattle.paraid_schedule.proofs.EnergyLemmas.{spun_up_total}
use Rattle.paraid_schedule.proofs.check.count_step.Goals as goal

pub returns-clause-total : goal.returns-clause-total
returns-clause-total c =
    (spun_up_total c.args.setup.now c.args.ledger.now c.spin_up.new.self c.args.from c.args.to c.saturating_sub.result c.requires.figures c.spin_up.ensures (omega arith) c.requires.room (omega arith) (omega arith)).0

pub returns-clause-small : goal.returns-clause-small
returns-clause-small c =
    let both = spun_up_total c.args.setup.now c.args.ledger.now c.spin_up.new.self c.args.from c.args.to c.saturating_sub.result c.requires.figures c.spin_up.ensures (omega arith) c.requires.room (omega arith) (omega arith) in
    omega (arith, both.0, both.1)
