use Rattle.std.proofs.Common.{arith, ◌∙◌, sym}
use Rattle.paraid_base.proofs.PlacesLemmas.{sum_before_none, sum_before_more}
use Rattle.paraid_base.specs.Regions.{region_size}
use Rattle.paraid_base.proofs.RegionsLemmas.{region_size_gear, region_size_none, stripe_count_small}
use Rattle.paraid_base.proofs.geometry.Geometry.soft_start.Goals as goal
use Rattle.paraid_base.proofs.geometry.Geometry.soft_start.Goals.{then-is_gear, else-is_gear}

pub loop-e-init : goal.loop-e-init
loop-e-init c = omega (arith, sum_before_none (region_size c.args.self.now))

pub loop-e-preserved : goal.loop-e-preserved
loop-e-preserved c =
    let g = c.args.self.now in
    let e = c.loop-e.e in
    let more = sum_before_more (region_size g) e in
    elim c.if-is_gear.branch [
      | then-is_gear w ↦
          let gear = sym c.is_gear.ensures ∙ w.if-is_gear.true in
          let size = region_size_gear g e gear in
          let small = stripe_count_small g.disks g.rows e (g.gears_low e gear) (g.gears_high e gear) g.disks_high g.rows_high in
          omega (arith, w.stripes-start.ensures)
      | else-is_gear w ↦
          let size = region_size_none g e (sym c.is_gear.ensures ∙ w.if-is_gear.false) in
          omega arith
    ]
