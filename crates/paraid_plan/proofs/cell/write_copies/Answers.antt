use Rattle.std.proofs.Common.{ℕ, ◌+◌, ◌∙◌, ap, arith, sym}
use Rattle.paraid_plan.proofs.cell.write_copies.Goals as goal
use Rattle.paraid_plan.proofs.DeskLemmas.{cell_desk_is, cell_room, parked_of}
use Rattle.paraid_plan.proofs.LeavesLemmas.{at_err, not_ok}
use Rattle.paraid_plan.proofs.WrittenBitsLemmas.{cell_bits}
use Rattle.paraid_plan.specs.Desk.{sees}

pub read_place-requires : goal.read_place-requires
read_place-requires g c =
    record {
      serves = c.requires.serves;
      in_range = c.requires.in_range;
      row = c.requires.row;
      disk = c.requires.disk;
      parked = λ h. parked_of (sees c.args.m.now (g.P.WritePlan.desk c.args.plan.now)) c.args.r c.args.d (sym c.requires.hard ∙ h);
    }

pub stage_place-requires : goal.stage_place-requires
stage_place-requires g c =
    record {
      in_range = c.requires.in_range;
      row = c.requires.row;
      disk = c.requires.disk;
      parked = λ h. parked_of (sees c.args.m.now (g.P.WritePlan.desk c.args.plan.now)) c.args.r c.args.d (sym c.requires.hard ∙ h);
      room = (let a = c.in_ok-read_place.ensures.reads.ok.staged in
          let b = c.in_ok-read_copy.ensures.reads.ok.staged in
          let room = c.requires.room in
          omega (arith, a, b, room));
    }

pub returns : goal.returns
returns g c =
    record {
      desk = (λ tells. let law = g.met.P.WritePlan.told in
          let t4 = law c.stage_copy.new.plan c.set_dirty.new.self c.set_dirty.ensures.leads tells in
          let t3 = law c.stage_place.new.plan c.stage_copy.new.plan c.stage_copy.ensures.leads t4 in
          let t2 = law c.read_copy.new.plan c.stage_place.new.plan c.stage_place.ensures.leads t3 in
          let t1 = law c.read_place.new.plan c.read_copy.new.plan c.in_ok-read_copy.ensures.reads.leads t2 in
          cell_desk_is c.args.m.now (g.P.WritePlan.desk c.args.plan.now) c.args.hard c.args.filled c.args.r c.args.d c.args.old.now c.args.new.now _ _
          _ _ _ _ _ (c.in_ok-read_place.ensures.reads.ok.same t1) (c.in_ok-read_copy.ensures.reads.ok.same t2) c.requires.hard c.requires.filled
          (c.in_ok-read_place.ensures.ok t1) (c.in_ok-read_copy.ensures.ok t2) c.stage_place.ensures.desk c.stage_copy.ensures.desk c.set_dirty.ensures.desk);
      bits = (cell_bits c.args.m.now (g.P.WritePlan.desk c.args.plan.now) (g.P.WritePlan.desk c.read_place.new.plan) (g.P.WritePlan.desk c.read_copy.new.plan) (g.P.WritePlan.desk c.stage_place.new.plan) (g.P.WritePlan.desk c.stage_copy.new.plan) (g.P.WritePlan.desk c.set_dirty.new.self) c.args.r c.args.d c.args.hard _ _
          c.in_ok-read_place.ensures.reads.ok.bits c.in_ok-read_copy.ensures.reads.ok.bits c.stage_place.ensures.desk c.stage_copy.ensures.desk c.requires.hard c.set_dirty.ensures.desk);
      room = (cell_room (g.P.WritePlan.desk c.args.plan.now) (g.P.WritePlan.desk c.read_place.new.plan) (g.P.WritePlan.desk c.read_copy.new.plan) (g.P.WritePlan.desk c.stage_place.new.plan) (g.P.WritePlan.desk c.stage_copy.new.plan) (g.P.WritePlan.desk c.set_dirty.new.self) c.args.r c.args.d _ c.in_ok-read_place.ensures.reads.ok.staged c.in_ok-read_copy.ensures.reads.ok.staged
          c.stage_place.ensures.room c.stage_copy.ensures.room c.set_dirty.ensures.desk);
      changes = (c.set_dirty.ensures.changes
          ∙ ap (λ (z : ℕ). z + 1) (c.stage_copy.ensures.changes ∙ c.stage_place.ensures.changes ∙ c.in_ok-read_copy.ensures.reads.ok.changes ∙ c.in_ok-read_place.ensures.reads.ok.changes));
      goes_on = c.set_dirty.ensures.goes_on;
      fails = tt;
      leads = (let then = g.met.P.WritePlan.then in
          then _ _ _ c.read_place.ensures.reads.leads (then _ _ _ c.read_copy.ensures.reads.leads
          (then _ _ _ c.stage_place.ensures.leads (then _ _ _ c.stage_copy.ensures.leads c.set_dirty.ensures.leads))));
    }

pub read_copy-requires : goal.read_copy-requires
read_copy-requires g c =
    record {
      serves = c.in_ok-read_place.ensures.reads.ok.goes_on;
      in_range = c.requires.in_range;
      row = c.requires.row;
      disk = c.requires.disk;
      filled = c.requires.filled;
    }

pub stage_copy-requires : goal.stage_copy-requires
stage_copy-requires g c =
    record {
      in_range = c.requires.in_range;
      row = c.requires.row;
      disk = c.requires.disk;
      filled = c.requires.filled;
      room = (let a = c.in_ok-read_place.ensures.reads.ok.staged in
          let b = c.in_ok-read_copy.ensures.reads.ok.staged in
          let room = c.requires.room in
          let d = c.stage_place.ensures.room in
          omega (arith, a, b, d, room));
    }

pub set_dirty-requires : goal.set_dirty-requires
set_dirty-requires g c =
    record {
      serves = c.stage_copy.ensures.goes_on c.args.m.now (c.stage_place.ensures.goes_on c.args.m.now c.in_ok-read_copy.ensures.reads.ok.goes_on);
      row = c.requires.row;
      disk = c.requires.disk;
      few = (let a = c.in_ok-read_place.ensures.reads.ok.changes in
          let b = c.in_ok-read_copy.ensures.reads.ok.changes in
          let d = c.stage_place.ensures.changes in
          let e = c.stage_copy.ensures.changes in
          let few = c.requires.few in
          omega (arith, a, b, d, e, few));
    }

pub returns-in_err-read_place : goal.returns-in_err-read_place
returns-in_err-read_place g c =
    record {
      desk = not_ok _ _ c.from_residual.result c.from_residual.ensures.1;
      bits = not_ok _ _ c.from_residual.result c.from_residual.ensures.1;
      room = not_ok _ _ c.from_residual.result c.from_residual.ensures.1;
      changes = not_ok _ _ c.from_residual.result c.from_residual.ensures.1;
      goes_on = not_ok _ _ c.from_residual.result c.from_residual.ensures.1;
      fails = at_err c.from_residual.result c.in_err-read_place.ensures.reads.fails;
      leads = c.read_place.ensures.reads.leads;
    }

pub returns-in_err-read_copy : goal.returns-in_err-read_copy
returns-in_err-read_copy g c =
    record {
      desk = not_ok _ _ c.from_residual-in_err-read_copy.result c.from_residual-in_err-read_copy.ensures.1;
      bits = not_ok _ _ c.from_residual-in_err-read_copy.result c.from_residual-in_err-read_copy.ensures.1;
      room = not_ok _ _ c.from_residual-in_err-read_copy.result c.from_residual-in_err-read_copy.ensures.1;
      changes = not_ok _ _ c.from_residual-in_err-read_copy.result c.from_residual-in_err-read_copy.ensures.1;
      goes_on = not_ok _ _ c.from_residual-in_err-read_copy.result c.from_residual-in_err-read_copy.ensures.1;
      fails = at_err c.from_residual-in_err-read_copy.result c.in_err-read_copy.ensures.reads.fails;
      leads = g.met.P.WritePlan.then _ _ _ c.read_place.ensures.reads.leads c.read_copy.ensures.reads.leads;
    }
