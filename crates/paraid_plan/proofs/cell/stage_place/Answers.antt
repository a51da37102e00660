use Rattle.std.proofs.Common.{◌∙◌, arith}
use Rattle.paraid_plan.proofs.cell.stage_place.Goals as goal
use Rattle.paraid_plan.proofs.DeskLemmas.{place_hard, place_soft}
use Rattle.paraid_plan.proofs.RoomLemmas.{unit_small}

pub stage_if-requires : goal.stage_if-requires
stage_if-requires g c = let room = c.requires.room in omega (arith, room)

pub soft_place-place-requires : goal.soft_place-place-requires
soft_place-place-requires g c = record {
  gear = c.requires.in_range.gear;
  region = let parked = c.requires.parked c.if-hard.false in let low = c.requires.disk in omega (arith, parked, low);
  stripe_in = c.soft_of-s.ensures.stripe_in;
}

pub soft_parity-parity-requires : goal.soft_parity-parity-requires
soft_parity-parity-requires g c = record {
  gear = c.requires.in_range.gear;
  region = let parked = c.requires.parked c.if-hard.false in let low = c.requires.disk in omega (arith, parked, low);
  stripe_in = c.soft_of-s.ensures.stripe_in;
}

pub overflow_add-g : goal.overflow_add-g
overflow_add-g g c =
    let small = unit_small c.args.m.now.setup.geometry c.args.m.now.gear c.soft_of-s.result.0 c.requires.in_range.gear c.soft_of-s.ensures.stripe_in in
    omega (arith, small)

pub stage_if-requires-2 : goal.stage_if-requires-2
stage_if-requires-2 g c = let room = c.requires.room in omega (arith, room)

pub overflow_add-g-2 : goal.overflow_add-g-2
overflow_add-g-2 g c =
    let small = unit_small c.args.m.now.setup.geometry c.args.m.now.gear c.soft_of-s.result.0 c.requires.in_range.gear c.soft_of-s.ensures.stripe_in in
    omega (arith, small)

pub stage_if-requires-3 : goal.stage_if-requires-3
stage_if-requires-3 g c = let room = c.requires.room in let one = c.stage_if-2.ensures.room in omega (arith, room, one)

pub returns : goal.returns
returns g c = record {
  desk =
      place_soft c.args.m.now _ _ _ c.args.hard _ _ c.args.r c.args.d _ _ _ _ c.args.new.now c.args.parity_block.now c.if-hard.false
      c.soft_of-s.ensures.stripe c.soft_of-s.ensures.disk c.soft_place-place.ensures.value c.soft_parity-parity.ensures.value
      c.is_written-2.ensures c.is_written-3.ensures c.stage_if-2.ensures.desk c.stage_if-3.ensures.desk;
  room = let one = c.stage_if-2.ensures.room in let two = c.stage_if-3.ensures.room in omega (arith, one, two);
  changes = c.stage_if-3.ensures.changes ∙ c.stage_if-2.ensures.changes;
  goes_on = λ n serves. c.stage_if-3.ensures.goes_on n (c.stage_if-2.ensures.goes_on n serves);
  leads = g.met.P.WritePlan.then _ _ _ c.stage_if-2.ensures.leads c.stage_if-3.ensures.leads;
}

pub returns-then-hard : goal.returns-then-hard
returns-then-hard g c = record {
  desk = place_hard c.args.m.now _ _ c.args.hard _ c.args.r c.args.d _ c.args.new.now c.args.parity_block.now c.if-hard.true c.is_written.ensures c.hard_place.ensures.value c.stage_if.ensures.desk;
  room = let one = c.stage_if.ensures.room in omega (arith, one);
  changes = c.stage_if.ensures.changes;
  goes_on = c.stage_if.ensures.goes_on;
  leads = c.stage_if.ensures.leads;
}

pub soft_of-s-requires : goal.soft_of-s-requires
soft_of-s-requires g c = record {
  gear = c.requires.in_range.gear;
  parked = c.requires.parked c.if-hard.false;
  disk_in = c.requires.disk;
  row_in = c.requires.row;
}
