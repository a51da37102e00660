use Rattle.std.proofs.Common.{ℕ, ◌+◌, ◌∙◌, true, false, ap, arith, refl, sym}
use Rattle.std.proofs.lemmas.Bool.{false≢true, true≢false}
use Rattle.paraid_plan.proofs.cell.write_cell.Goals as goal
use Rattle.paraid_plan.proofs.DeskLemmas.{cell_desk_is, cell_room, copy_none}
use Rattle.paraid_plan.proofs.WrittenBitsLemmas.{cell_bits}

pub returns-then-not-filled : goal.returns-then-not-filled
returns-then-not-filled g c =
    record {
      desk = (λ tells. let m = c.args.m.now in
          let new = c.args.new.now in
          let s = g.P.WritePlan.desk c.args.plan.now in
          let staged = g.P.WritePlan.desk c.stage_place.new.plan in
          cell_desk_is m s true false c.args.r c.args.d c.args.old.now new new new
          s s staged staged _ refl refl (sym c.if-hard.true ∙ c.goes_hard-hard.ensures) (sym c.if-not-filled.true ∙ c.is_filled-filled.ensures)
          (λ h. absurd (true≢false h)) (λ h. absurd (false≢true h)) c.stage_place.ensures.desk (copy_none m staged false c.args.r c.args.d new new refl) c.set_dirty.ensures.desk);
      bits = (let m = c.args.m.now in
          let s = g.P.WritePlan.desk c.args.plan.now in
          let staged = g.P.WritePlan.desk c.stage_place.new.plan in
          cell_bits m s s s staged staged (g.P.WritePlan.desk c.set_dirty.new.self) c.args.r c.args.d true _ _ refl refl c.stage_place.ensures.desk
          (copy_none m staged false c.args.r c.args.d c.args.new.now c.args.new.now refl) (sym c.if-hard.true ∙ c.goes_hard-hard.ensures) c.set_dirty.ensures.desk);
      room = (let s = g.P.WritePlan.desk c.args.plan.now in
          let staged = g.P.WritePlan.desk c.stage_place.new.plan in
          cell_room s s s staged staged (g.P.WritePlan.desk c.set_dirty.new.self) c.args.r c.args.d _ refl refl c.stage_place.ensures.room (omega (arith)) c.set_dirty.ensures.desk);
      changes = c.set_dirty.ensures.changes ∙ ap (λ (z : ℕ). z + 1) c.stage_place.ensures.changes;
      goes_on = c.set_dirty.ensures.goes_on;
      fails = tt;
      leads = g.met.P.WritePlan.then _ _ _ c.stage_place.ensures.leads c.set_dirty.ensures.leads;
    }

pub set_dirty-requires : goal.set_dirty-requires
set_dirty-requires g c =
    record {
      serves = c.stage_place.ensures.goes_on c.args.m.now c.requires.serves;
      row = c.requires.row;
      disk = c.requires.disk;
      few = (let a = c.stage_place.ensures.changes in
          let few = c.requires.few in
          omega (arith, a, few));
    }

pub goes_hard-hard-requires : goal.goes_hard-hard-requires
goes_hard-hard-requires g c = record {
  serves = c.requires.serves;
  row = c.requires.row;
  disk = c.requires.disk;
}

pub is_filled-filled-requires : goal.is_filled-filled-requires
is_filled-filled-requires g c = record {
  in_range = c.requires.in_range;
  row = c.requires.row;
  disk = c.requires.disk;
}

pub stage_place-requires : goal.stage_place-requires
stage_place-requires g c = record {
  in_range = c.requires.in_range;
  row = c.requires.row;
  disk = c.requires.disk;
  parked = λ h. absurd (true≢false h);
  room = let room = c.requires.room in omega (arith, room);
}

pub write_copies-requires : goal.write_copies-requires
write_copies-requires g c = record {
  serves = c.requires.serves;
  in_range = c.requires.in_range;
  row = c.requires.row;
  disk = c.requires.disk;
  hard = c.goes_hard-hard.ensures;
  filled = c.is_filled-filled.ensures;
  room = c.requires.room;
  few = c.requires.few;
}

pub returns : goal.returns
returns g c = record {
  desk = c.write_copies.ensures.desk;
  bits = c.write_copies.ensures.bits;
  room = c.write_copies.ensures.room;
  changes = c.write_copies.ensures.changes;
  goes_on = c.write_copies.ensures.goes_on;
  fails = c.write_copies.ensures.fails;
  leads = c.write_copies.ensures.leads;
}
