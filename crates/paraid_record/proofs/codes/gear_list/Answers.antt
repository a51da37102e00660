use Rattle.std.proofs.Common.{arith, refl, sym, ◌∙◌}
use Rattle.paraid_record.specs.Codes.{gears_below}
use Rattle.paraid_record.specs.Spelling.{zero_filled}
use Rattle.paraid_record.proofs.GearLemmas.{gear_step-no, gear_step-yes, length-gears_below}
use Rattle.paraid_record.proofs.codes.gear_list.Goals as goal
use Rattle.paraid_record.proofs.codes.gear_list.Goals.{then-is_gear, else-is_gear}

pub loop-gear-init : goal.loop-gear-init
unfolding zero_filled gears_below
loop-gear-init c = (refl, refl)

pub bounds-list-count : goal.bounds-list-count
bounds-list-count c =
    let few = length-gears_below c.args.geometry.now c.loop-gear.gear in
    omega (arith, c.loop-gear.invariant.1)

pub overflow_add-count : goal.overflow_add-count
overflow_add-count c =
    let few = length-gears_below c.args.geometry.now c.loop-gear.gear in
    omega (arith, c.loop-gear.invariant.1)

pub loop-gear-preserved : goal.loop-gear-preserved
loop-gear-preserved c = elim c.if-is_gear.branch [
  | then-is_gear w ↦
      let yes = sym c.is_gear.ensures ∙ w.if-is_gear.true in
      gear_step-yes c.args.geometry.now _ _ _ _ _ (omega arith) yes c.loop-gear.invariant.0 c.loop-gear.invariant.1 w.list-is w.count-is
  | else-is_gear w ↦
      let same = gear_step-no c.args.geometry.now c.loop-gear.gear (sym c.is_gear.ensures ∙ w.if-is_gear.false) in
      rw same (w.list-is ∙ c.loop-gear.invariant.0, w.count-is ∙ c.loop-gear.invariant.1)
]
