use Rattle.std.proofs.Common.{arith, sym, ◌∙◌}
use Rattle.paraid_schedule.proofs.RankLemmas.{rank-none, rank-gear, rank-other}
use Rattle.paraid_schedule.proofs.planner.gears_below.Goals.{then-is_gear, else-is_gear}
use Rattle.paraid_schedule.proofs.planner.gears_below.Goals as goal

pub loop-e-init : goal.loop-e-init
loop-e-init c = record { counted = sym (rank-none c.args.geometry.now); few = omega arith }

pub loop-e-preserved : goal.loop-e-preserved
loop-e-preserved c =
    let g = c.args.geometry.now in
    let e = c.loop-e.e in
    elim c.if-is_gear.branch [
      | then-is_gear w ↦
          let more = rank-gear g e (sym c.is_gear.ensures ∙ w.if-is_gear.true) in
          record { counted = omega arith; few = omega arith }
      | else-is_gear w ↦
          let same = rank-other g e (sym c.is_gear.ensures ∙ w.if-is_gear.false) in
          record { counted = omega arith; few = omega arith }
    ]
