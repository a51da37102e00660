use Rattle.std.proofs.Common.{◌∙◌, ap, arith, rules}
use Rattle.paraid_plan.proofs.write.stage_map.Goals as goal
use Rattle.std.specs.Prelude.{ℕ, ◌+◌, ◌/◌}
use Rattle.paraid_plan.specs.WriteTargets.{is_written}
use Rattle.paraid_plan.proofs.DeskLemmas.{map_both, map_none}
use Rattle.paraid_plan.proofs.RoomLemmas.{map_small, region_small, room_same}
use Rattle.paraid_base.specs.Xor.{zero_block}

pub stripes-requires : goal.stripes-requires
stripes-requires g c =
    c.requires.in_range.gear

pub overflow_add-unit : goal.overflow_add-unit
overflow_add-unit g c =
    let m = c.args.m.now in
    let small = region_small m.setup.geometry m.gear c.requires.in_range.gear in
    let count = c.stripes.ensures in
    omega (arith, small, count)

pub overflow_add-unit-2 : goal.overflow_add-unit-2
overflow_add-unit-2 g c =
    let m = c.args.m.now in
    let small = region_small m.setup.geometry m.gear c.requires.in_range.gear in
    let count = c.stripes.ensures in
    let at = map_small c.args.m.now.setup.geometry c.args.r c.requires.row in
    omega (arith, small, count, at)

pub overflow_add-j : goal.overflow_add-j
overflow_add-j g c =
    let at = map_small c.args.m.now.setup.geometry c.args.r c.requires.row in
    omega (arith, at)

pub overflow_add-j-2 : goal.overflow_add-j-2
overflow_add-j-2 g c =
    let at = map_small c.args.m.now.setup.geometry c.args.r c.requires.row in
    omega (arith, at)

pub stage_if-requires : goal.stage_if-requires
stage_if-requires g c =
    let same = room_same (g.P.WritePlan.desk c.args.plan.now) (g.P.WritePlan.desk c.map_block.new.self) c.map_block.ensures.same in
    let room = c.requires.room in
    omega (arith, same, room)

pub stage_if-requires-2 : goal.stage_if-requires-2
stage_if-requires-2 g c =
    let same = room_same (g.P.WritePlan.desk c.args.plan.now) (g.P.WritePlan.desk c.map_block.new.self) c.map_block.ensures.same in
    let room = c.requires.room in
    let one = c.stage_if.ensures.room in
    omega (arith, same, room, one)

pub returns-then-not-staged : goal.returns-then-not-staged
returns-then-not-staged g c = record {
  map = map_none c.args.m.now (g.P.WritePlan.desk c.args.plan.now) _ c.args.staged zero_block c.if-not-staged.true;
  room = search rules;
  changes = search rules;
  goes_on = search rules;
  leads = g.met.P.WritePlan.stays c.args.plan.now;
}

pub returns : goal.returns
returns g c = record {
  map =
      let m = c.args.m.now in
      let j : ℕ = c.args.r / 512 in
      map_both m (g.P.WritePlan.desk c.args.plan.now) (g.P.WritePlan.desk c.map_block.new.self) (g.P.WritePlan.desk c.stage_if.new.plan) (g.P.WritePlan.desk c.stage_if-2.new.plan)
      j c.args.staged c.is_written.result c.is_written-2.result c.map_block.new.into c.if-not-staged.false c.map_block.ensures.shows c.map_block.ensures.same
      (c.is_written.ensures ∙ ap (λ (z : ℕ). is_written m.out 0 (m.setup.geometry.rows + z + j)) c.stripes.ensures)
      (c.is_written-2.ensures ∙ ap (λ (z : ℕ). is_written m.out 1 (m.setup.geometry.rows + z + j)) c.stripes.ensures)
      c.stage_if.ensures.desk c.stage_if-2.ensures.desk;
  room =
      let same = room_same (g.P.WritePlan.desk c.args.plan.now) (g.P.WritePlan.desk c.map_block.new.self) c.map_block.ensures.same in
      let one = c.stage_if.ensures.room in
      let two = c.stage_if-2.ensures.room in
      omega (arith, same, one, two);
  changes = c.stage_if-2.ensures.changes ∙ c.stage_if.ensures.changes ∙ c.map_block.ensures.changes;
  goes_on = λ n serves. c.stage_if-2.ensures.goes_on n (c.stage_if.ensures.goes_on n (c.map_block.ensures.goes_on n serves));
  leads =
      let then = g.met.P.WritePlan.then in
      then _ _ _ c.map_block.ensures.leads (then _ _ _ c.stage_if.ensures.leads c.stage_if-2.ensures.leads);
}
