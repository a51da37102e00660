use Rattle.std.proofs.Common.{sym, ◌∙◌, ap}
use Rattle.paraid_base.specs.declared.state.Phase.{Phase}
use Rattle.paraid_machine.specs.Moves.{units_by}
use Rattle.paraid_record.specs.declared.meta.Meta.{Meta}
use Rattle.paraid_upkeep.proofs.shifts.units_of_tick.Goals as goal

pub returns : goal.returns
returns g c = record {
  units = λ samples served energy s of.
      let m = c.args.core.now.meta in
      let left = c.units_left-left.result in
      c.units_among.ensures.units ∙ ap (λ (z : Meta). units_by z.setup.mode z.phase z.setup.rate left) c.meta.ensures
      ∙ ap (λ (x : Phase). units_by m.setup.mode x m.setup.rate left) (sym of.phase) ∙ ap (units_by m.setup.mode s.phase m.setup.rate) ((c.units_left-left.ensures.units samples served energy).left s of);
}
