use Rattle.std.proofs.Common.{arith}
use Rattle.paraid_record.specs.Range.{AreNextGears}
use Rattle.paraid_schedule.proofs.GearStepLemmas.{next_lower-is, next_lower-none}
use Rattle.paraid_schedule.proofs.LoweredLemmas.{lowered_fall, lowered_none}
use Rattle.paraid_schedule.proofs.planner.relax_by_fall.Goals as goal

pub relax_to-requires : goal.relax_to-requires
relax_to-requires c =
    let low = c.in-Some.ensures.0 in
    record { row = c.requires; gear = c.in-Some.ensures.1; low = omega (arith, low) }

pub returns-in-Some : goal.returns-in-Some
returns-in-Some c =
    lowered_fall c.args.setup.now c.args.ups c.args.t c.args.a c.args.bounds.now c.relax_to.new.bounds c.in-Some.b
    (next_lower-is c.args.setup.now.geometry c.args.a c.in-Some.b c.requires.gear c.in-Some.ensures) c.relax_to.ensures

pub returns-in_default : goal.returns-in_default
returns-in_default c =
    let g = c.args.setup.now.geometry in
    lowered_none (λ b. AreNextGears g b c.args.a) c.args.setup.now c.args.ups c.args.t c.args.a c.args.bounds.now (λ b is. next_lower-none g c.args.a b c.in_default.ensures is) c.requires.most
