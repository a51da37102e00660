use Rattle.std.proofs.Common.{◌∙◌, ℕ, ◌≤◌, arith, subst, sym, rules}
use Rattle.paraid_base.specs.Regions.{IsGear}
use Rattle.paraid_plan.proofs.FilledCopyLemmas.{filled_low}
use Rattle.paraid_plan.proofs.RoomLemmas.{filled_gear, filled_parked}
use Rattle.paraid_plan.proofs.cell.stage_copy.Goals as goal
use Rattle.paraid_plan.proofs.DeskLemmas.{copy_both, copy_none}

pub soft_of-s-requires : goal.soft_of-s-requires
soft_of-s-requires g c = record {
  gear =
      let m = c.args.m.now in
      let low = filled_low m c.args.r c.args.d (sym c.requires.filled ∙ c.if-not-filled.false) in
      subst (IsGear m.setup.geometry) (sym c.to-to.ensures) (filled_gear m _ c.requires.in_range low);
  parked =
      let m = c.args.m.now in
      let at = filled_parked m c.args.r c.args.d (sym c.requires.filled ∙ c.if-not-filled.false) in
      subst (λ (z : ℕ). z ≤ c.args.d) (sym c.to-to.ensures) at;
  disk_in = c.requires.disk;
  row_in = c.requires.row;
}

pub soft_place-place-requires : goal.soft_place-place-requires
soft_place-place-requires g c = record {
  gear =
      let m = c.args.m.now in
      let low = filled_low m c.args.r c.args.d (sym c.requires.filled ∙ c.if-not-filled.false) in
      subst (IsGear m.setup.geometry) (sym c.to-to.ensures) (filled_gear m _ c.requires.in_range low);
  region =
      let m = c.args.m.now in
      let at = filled_parked m c.args.r c.args.d (sym c.requires.filled ∙ c.if-not-filled.false) in
      let to = c.to-to.ensures in
      let disk = c.requires.disk in
      omega (arith, at, to, disk);
  stripe_in = c.soft_of-s.ensures.stripe_in;
}

pub soft_parity-parity-requires : goal.soft_parity-parity-requires
soft_parity-parity-requires g c = record {
  gear =
      let m = c.args.m.now in
      let low = filled_low m c.args.r c.args.d (sym c.requires.filled ∙ c.if-not-filled.false) in
      subst (IsGear m.setup.geometry) (sym c.to-to.ensures) (filled_gear m _ c.requires.in_range low);
  region =
      let m = c.args.m.now in
      let at = filled_parked m c.args.r c.args.d (sym c.requires.filled ∙ c.if-not-filled.false) in
      let to = c.to-to.ensures in
      let disk = c.requires.disk in
      omega (arith, at, to, disk);
  stripe_in = c.soft_of-s.ensures.stripe_in;
}

pub stage_if-requires : goal.stage_if-requires
stage_if-requires g c = let room = c.requires.room in omega (arith, room)

pub stage_if-requires-2 : goal.stage_if-requires-2
stage_if-requires-2 g c = let room = c.requires.room in let one = c.stage_if.ensures.room in omega (arith, room, one)

pub returns-then-not-filled : goal.returns-then-not-filled
returns-then-not-filled g c = record {
  desk = copy_none c.args.m.now _ c.args.filled c.args.r c.args.d c.args.new.now c.args.parity_block.now c.if-not-filled.true;
  room = search rules;
  changes = search rules;
  goes_on = search rules;
  leads = g.met.P.WritePlan.stays c.args.plan.now;
}

pub returns : goal.returns
returns g c = record {
  desk =
      copy_both c.args.m.now _ _ _ c.args.filled c.args.r c.args.d _ _ _ _ _ c.args.new.now c.args.parity_block.now c.if-not-filled.false
      c.to-to.ensures c.soft_of-s.ensures.stripe c.soft_of-s.ensures.disk c.soft_place-place.ensures.value c.soft_parity-parity.ensures.value
      c.stage_if.ensures.desk c.stage_if-2.ensures.desk;
  room = let one = c.stage_if.ensures.room in let two = c.stage_if-2.ensures.room in omega (arith, one, two);
  changes = c.stage_if-2.ensures.changes ∙ c.stage_if.ensures.changes;
  goes_on = λ n serves. c.stage_if-2.ensures.goes_on n (c.stage_if.ensures.goes_on n serves);
  leads = g.met.P.WritePlan.then _ _ _ c.stage_if.ensures.leads c.stage_if-2.ensures.leads;
}
