use Rattle.std.proofs.Common.{◌≡◌, ◌∙◌, true, false, sym, arith}
use Rattle.paraid_event.specs.Service.{service_of}
use Rattle.paraid_shift.proofs.UnitLemmas.{tells_none, tells_some}
use Rattle.paraid_shift.proofs.units.is_done.Goals as goal

pub returns-in-Some-clause-units : goal.returns-in-Some-clause-units
returns-in-Some-clause-units g c samples served energy =
    let a = c.args.core.now in
    let first = c.in-Some.ensures.first in
    tells_some (service_of g.R.Rack.slot_count a samples served energy) c.stripes_left.ensures.within
    (λ done. let z : true ≡ false = sym first.is ∙ done.clean _ _ c.in-Some.ensures.row first.low first.high in absurd cc)

pub returns-in-None-clause-units : goal.returns-in-None-clause-units
returns-in-None-clause-units g c samples served energy =
    let a = c.args.core.now in
    tells_none (service_of g.R.Rack.slot_count a samples served energy)
    (record {
      filled = let left = c.stripes_left.ensures.left in let within = c.stripes_left.ensures.within in omega arith;
      clean = λ r d row low high. c.in-None.ensures.none.clean r d low high;
    })
