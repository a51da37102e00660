use Rattle.std.proofs.Common.{ap, arith}
use Rattle.paraid_event.specs.Service.{service_of}
use Rattle.paraid_record.specs.declared.meta.Meta.{Meta}
use Rattle.paraid_base.specs.States.{phase_to}
use Rattle.paraid_shift.proofs.UnitLemmas.{none_are_left, units_are_counted}
use Rattle.paraid_shift.proofs.moving.units_left.Goals as goal

pub returns-then-to-eq0 : goal.returns-then-to-eq0
returns-then-to-eq0 g c = record {
  units = λ samples served energy.
      none_are_left (service_of g.R.Rack.slot_count c.args.core.now samples served energy) (let same = ap (λ (m : Meta). phase_to m.phase) c.meta.ensures in omega arith);
}

pub returns : goal.returns
returns g c = record {
  units = λ samples served energy.
      units_are_counted (service_of g.R.Rack.slot_count c.args.core.now samples served energy) c.requires.ready.in_range _ _ _ c.cells_left.ensures.some c.cells_left.ensures.none c.stripes_left.ensures.left c.saturating_add.ensures;
}
